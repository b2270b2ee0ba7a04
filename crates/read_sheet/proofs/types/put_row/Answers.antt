use Rattle.read_sheet.proofs.types.put_row.Goals as goal

pub returns-in-Transitions : goal.returns-in-Transitions
returns-in-Transitions c = rw c.in-Transitions.is c.put_ends.ensures

pub returns-in-Behaviors : goal.returns-in-Behaviors
returns-in-Behaviors c = rw c.in-Behaviors.is c.put_behavior.ensures

pub returns-in-Ports : goal.returns-in-Ports
returns-in-Ports c = rw c.in-Ports.is c.put_port.ensures

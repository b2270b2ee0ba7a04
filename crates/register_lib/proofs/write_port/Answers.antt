use Rattle.register_lib.proofs.write_port.Goals as goal

pub returns-in-NoPort : goal.returns-in-NoPort
returns-in-NoPort c = rw c.in-NoPort.is c.write_byte.ensures

pub returns-in-UsePort : goal.returns-in-UsePort
returns-in-UsePort c = rw c.in-UsePort.is c.write_cell.ensures

use Rattle.aeolus_read_lines.proofs.kind_line.Goals as goal

pub returns-in-Initial : goal.returns-in-Initial
returns-in-Initial c = rw c.in-Initial.is c.initial_line.ensures

pub returns-in-Interface : goal.returns-in-Interface
returns-in-Interface c = rw c.in-Interface.is c.interface_line.ensures

pub returns-in-To : goal.returns-in-To
returns-in-To c = rw c.in-To.is c.to_line.ensures

pub returns-in-Row : goal.returns-in-Row
returns-in-Row c = rw c.in-Row.is c.row_line.ensures

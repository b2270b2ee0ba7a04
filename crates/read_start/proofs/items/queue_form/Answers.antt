use Rattle.read_start.proofs.Queues.{queue-none, queue-alone, queue-unread, last-unread, queue-last}
use Rattle.read_start.proofs.items.queue_form.Goals as goal

pub returns-in_err-count : goal.returns-in_err-count
returns-in_err-count c = rw (c.if-not-tickets.true, c.from_residual.ensures) (queue-none _ _ c.args.at c.in_err-count.ensures)

pub returns-then-not-tickets : goal.returns-then-not-tickets
returns-then-not-tickets c = rw c.if-not-tickets.true (queue-alone _ _ c.args.at c.in_ok-count.ensures)

pub returns-in_err-count-2 : goal.returns-in_err-count-2
returns-in_err-count-2 c = rw (c.if-not-tickets.false, c.from_residual-in_err-count-2.ensures) (queue-unread _ _ c.args.at c.in_err-count-2.ensures)

pub returns-in_err-last : goal.returns-in_err-last
returns-in_err-last c =
    rw (c.if-not-tickets.false, c.from_residual-in_err-last.ensures) (last-unread _ _ c.args.at c.in_ok-count-2.ensures c.in_err-last.ensures)

pub returns : goal.returns
returns c = rw c.if-not-tickets.false (queue-last _ _ c.args.at c.in_ok-count-2.ensures c.in_ok-last.ensures)

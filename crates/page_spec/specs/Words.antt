-- What became of an answer, in words, as a text of 41 lines: line k, from 0, is for the refusal k (01, "Refusal numbers"; 02, C-11 for 34 and 38, C-21 for 19, 23
-- and 24); line 0 for an answer that is done, 39 for one that is unfinished, 40 for one that can't be read; `-` for a number that no answer gets.
use Rattle.std.specs.Prelude.{ℕ, List}
use Rattle.item_spec.specs.Reader.{bytes}

unfoldable pub words_text : List ℕ
words_text =
    bytes "done: every step is allowed, every instruction done, every queue empty\nfault 1: the text is too long\nfault 2: wrong key, order, form, or text ended early\nfault 3: a number beyond its limit\n-\nfault 5: bytes after the last line due\n-\n-\n-\n-\nrefused 10: next with no instruction left\nrefused 11: id absent\nrefused 12: id present at add\nrefused 13: no such behavior or port, or port of the wrong kind\nrefused 14: both ends are one instance\nrefused 15: use port already connected\nrefused 16: 64 connections stand\nrefused 17: no such connection\nrefused 18: del of a connected instance\nrefused 19: ticket not above the last\nrefused 20: queue full\nrefused 21: queue not empty at wait or del\nrefused 22: use port active at dcon\nrefused 23: ticket still queued\nrefused 24: ticket never pushed\n-\n-\n-\n-\n-\nrefused 30: queue empty at a move\nrefused 31: not marked, not running, not all ended\nrefused 32: no transition of the current behavior leaves p, or leads to p\nrefused 33: a leaving transition held, or the place already marked\nrefused 34: the provider of a use port inactive\nrefused 35: the provider is refusing\nrefused 36: the service is in use\nrefused 37: finish too early\nrefused 38: unconnected use port\nunfinished: every step is allowed, but the program or a queue is not at its end\nunreadable: no plain file, or shut\n"

-- The claims on tickets, of texts that are read.
-- Assumes nothing.
use native.Mathlib.Omega.{arith}
use Rattle.judge_spec.specs.Course.{default_depth}
use Rattle.demands.specs.Tickets.{TicketsRise, WaitsExactly, PushesExactly}
use Rattle.demands.specs.OnTexts.{sheet_tables, sheet_program, begin_of, up_to}
use Rattle.demands.specs.TicketTexts.{TicketsRiseOnTexts, WaitsOnTexts, PushesOnTexts}
use Rattle.demands.proofs.Tickets.{tickets-rise, waits-exactly, pushes-exactly}
use Rattle.demands.proofs.OnTexts.{read_goes}

pub tickets-rise-on-texts : TicketsRiseOnTexts
unfolding TicketsRiseOnTexts TicketsRise
tickets-rise-on-texts s a n i r has =
    let g = read_goes s a r in
    tickets-rise default_depth (sheet_tables s) (sheet_program s) (begin_of s) (up_to n a) i (omega arith) g.lawful g.begins-well (g.fits has) has

pub waits-on-texts : WaitsOnTexts
unfolding WaitsOnTexts WaitsExactly
waits-on-texts s a n i k r has =
    let g = read_goes s a r in
    waits-exactly default_depth (sheet_tables s) (sheet_program s) (begin_of s) (up_to n a) i k (omega arith) g.lawful g.begins-well (g.fits has)

pub pushes-on-texts : PushesOnTexts
unfolding PushesOnTexts PushesExactly
pushes-on-texts s a n i k ticket r has =
    let g = read_goes s a r in
    pushes-exactly default_depth (sheet_tables s) (sheet_program s) (begin_of s) (up_to n a) i k ticket g.lawful g.begins-well (g.fits has)

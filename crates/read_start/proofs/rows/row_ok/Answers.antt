use lib.Dec.{leb-suc-suc}
use Rattle.read_start.specs.Says.{row_passes}
use Rattle.read_start.proofs.rows.row_ok.Goals as goal

pub returns : goal.returns
unfolding row_passes
returns c =
    rw (
      c.items_ok.ensures,
      c.behaviors_of.ensures,
      c.queue_room.ensures,
      c.places_of.ensures,
      c.types.ensures,
      c.transitions_of-n.ensures,
      leb-suc-suc c.args.row.id 31,
    )

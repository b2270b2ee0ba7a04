-- What the words of the three lent arrays say. The fields of types and steps stand in columns.
--
--   universe       0 types (16 x states, initial, interfaces, provides, requires); 80 names, 336 to (16 x 16); 592 numbers (16 x 16 x 3 x 16);
--                  12880 count
--   plan           0 steps (1024 x verb, first, second, third); 4096 count
--   configuration  0 kinds, 32 states (32); 64 bound (32 x 16); 576 present
use Rattle.std.specs.Prelude.{List, ℕ}
use Rattle.areas.specs.Area.{word, area, rows}
use Rattle.aeolus_model.specs.declared.Step.{Step}
use Rattle.aeolus_model.specs.Model.{ResourceType, Universe, Configuration}
use Rattle.aeolus_model.specs.Action.{Plan}

abbrev pub type_from : (ℕ → ℕ) → ResourceType
type_from f = record { states = f 0; initial = f 1; interfaces = f 2; provides = f 3; requires = f 4 }

unfoldable pub universe_in : List ℕ → Universe
universe_in ws = record {
  count = word ws 12880;
  types = rows ws 0 16 type_from;
  names = area ws 80 256;
  to = area ws 336 256;
  numbers = area ws 592 12288;
}

abbrev pub step_from : (ℕ → ℕ) → Step
step_from f = record { verb = f 0; first = f 1; second = f 2; third = f 3 }

unfoldable pub plan_in : List ℕ → Plan
plan_in ws = record { steps = rows ws 0 1024 step_from; count = word ws 4096 }

unfoldable pub configuration_in : List ℕ → Configuration
configuration_in ws = record { present = word ws 576; kinds = area ws 0 32; states = area ws 32 32; bound = area ws 64 512 }

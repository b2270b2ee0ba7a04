-- Tables and a program of which some slots are said: what the next line makes of them.
-- Assumes nothing.
use Prim.Native.Nat.{ℕ, suc, ◌≤◌}
use mathlib.Core.List.{List}
use mathlib.Core.Bool.{Bool, false}
use mathlib.Core.Path.{◌≡◌, refl, ap, ap₂}
use lib.Dec.{ltb}
use lib.ListN.{get_or, set}
use Rattle.sets.specs.Test.{any_below}
use Rattle.model.specs.declared.ComponentType.{ComponentType}
use Rattle.model.specs.declared.Transitions.{Transitions}
use Rattle.model.specs.declared.Ports.{Ports}
use Rattle.model.specs.declared.Tables.{Tables}
use Rattle.model.specs.declared.Instruction.{Instruction}
use Rattle.model.specs.declared.Program.{Program}
use Rattle.model.specs.Empty.{no_type, no_tables, none_begun, no_program, no_instruction}
use Rattle.model.specs.View.{type_of}
use Rattle.read_spec.specs.Fill.{headed, with_type, with_transition, with_port, program_of, with_instruction}
use Rattle.write_spec.specs.Texts.{transition_row, behavior_row, port_row, instruction_row}
use Rattle.write_spec.specs.Cleared.{row_said, column, spoken}
use Rattle.write_spec.proofs.Columns.{column-same, column-none, column-set, up_none, up_next, up_to, to_none, to-next}

module _ (t : Tables) where
  -- ---- the rows of a kind, of which the slots p are said
  abbrev pub transitions_of : (ℕ → Bool) → Transitions
  transitions_of said = record { source = column 512 said 0 (λ r. get_or t.transitions.source r 0); destination = column 512 said 0 (λ r. get_or t.transitions.destination r 0) }

  abbrev pub behaviors_of : (ℕ → Bool) → List ℕ
  behaviors_of said = column 128 said 0 (λ r. get_or t.behaviors r 0)

  abbrev pub ports_of : (ℕ → Bool) → Ports
  ports_of said = record { uses = column 256 said 0 (λ r. get_or t.ports.uses r 0); places = column 256 said 0 (λ r. get_or t.ports.places r 0); transitions = column 256 said 0 (λ r. get_or t.ports.transitions r 0) }

  module _ (said : ℕ → Bool) (lo : ℕ) where
    pub tran-none : transitions_of (up_to said lo lo) ≡ transitions_of said
    tran-none = let f = to_none said lo in ap₂ (λ (a b : List ℕ). record { source = a; destination = b }) (column-same 512 0 _ _ _ f) (column-same 512 0 _ _ _ f)

    pub behavior-none : behaviors_of (up_to said lo lo) ≡ behaviors_of said
    behavior-none = column-same 128 0 _ _ _ (to_none said lo)

    pub port-none : ports_of (up_to said lo lo) ≡ ports_of said
    port-none =
        let f = to_none said lo in
        rw (column-same 256 0 (λ r. get_or t.ports.uses r 0) _ _ f, column-same 256 0 (λ r. get_or t.ports.places r 0) _ _ f, column-same 256 0 (λ r. get_or t.ports.transitions r 0) _ _ f)

    module _ (j : ℕ) (l : lo ≤ j) where
      pub tran-made : with_transition (transitions_of (up_to said lo j)) j (transition_row t j).0 (transition_row t j).1 ≡ transitions_of (up_to said lo (suc j))
      unfolding with_transition
      tran-made = let f = to-next said lo j l in ap₂ (λ (a b : List ℕ). record { source = a; destination = b }) (column-set 512 0 _ _ _ j f) (column-set 512 0 _ _ _ j f)

      pub behavior-made : set (behaviors_of (up_to said lo j)) j (behavior_row t j) ≡ behaviors_of (up_to said lo (suc j))
      behavior-made = column-set 128 0 _ _ _ j (to-next said lo j l)

      pub port-made : with_port (ports_of (up_to said lo j)) j (port_row t j).0 (port_row t j).1 (port_row t j).2 ≡ ports_of (up_to said lo (suc j))
      unfolding with_port
      port-made = let f = to-next said lo j l in made (column-set 256 0 _ _ _ j f) (column-set 256 0 _ _ _ j f) (column-set 256 0 _ _ _ j f)
        where
          made : {a b c d e f : List ℕ} → a ≡ b → c ≡ d → e ≡ f → ◌≡◌ {A = Ports} (record { uses = a; places = c; transitions = e }) (record { uses = b; places = d; transitions = f })
          made x y z = rw (x, y, z)

  -- ---- the slots of the first n types
  abbrev pub trans : ℕ → ℕ → Bool
  trans n = row_said n 32 (λ i. (type_of t i).transitions)

  abbrev pub behaves : ℕ → ℕ → Bool
  behaves n = row_said n 8 (λ i. (type_of t i).behaviors)

  abbrev pub gates : ℕ → ℕ → Bool
  gates n = row_said n 16 (λ i. (type_of t i).ports)

  -- the tables of which the first n types are said
  abbrev pub said_to : ℕ → Tables
  said_to n = record {
    depth = t.depth;
    count = t.count;
    types = column 16 (λ r. ltb r n) no_type (type_of t);
    transitions = transitions_of (trans n);
    behaviors = behaviors_of (behaves n);
    ports = ports_of (gates n);
  }

  pub type-made : (i : ℕ) → with_type (said_to i) i (type_of t i) (transitions_of (trans (suc i))) (behaviors_of (behaves (suc i))) (ports_of (gates (suc i))) ≡ said_to (suc i)
  unfolding with_type
  type-made i =
      ap (λ (ks : List ComponentType). record { depth = t.depth; count = t.count; types = ks; transitions = transitions_of (trans (suc i)); behaviors = behaviors_of (behaves (suc i)); ports = ports_of (gates (suc i)) })
      (column-set 16 no_type (type_of t) _ _ i (up_next i))

  pub head-said : headed t.depth t.count ≡ said_to 0
  unfolding headed no_tables any_below
  head-said =
      rw (
        column-none 16 no_type (type_of t) (λ r. ltb r 0) up_none,
        column-none 512 0 (λ r. get_or t.transitions.source r 0) (λ r. false) (λ r. refl),
        column-none 512 0 (λ r. get_or t.transitions.destination r 0) (λ r. false) (λ r. refl),
        column-none 128 0 (λ r. get_or t.behaviors r 0) (λ r. false) (λ r. refl),
        column-none 256 0 (λ r. get_or t.ports.uses r 0) (λ r. false) (λ r. refl),
        column-none 256 0 (λ r. get_or t.ports.places r 0) (λ r. false) (λ r. refl),
        column-none 256 0 (λ r. get_or t.ports.transitions r 0) (λ r. false) (λ r. refl),
      )

-- ---- the program of which the first j instructions are said
module _ (p : Program) where
  abbrev pub program_to : ℕ → Program
  program_to j = record { edition = p.edition; begun = none_begun; instructions = column 256 (λ r. ltb r j) no_instruction (λ r. spoken (instruction_row p r)); count = p.count }

  pub program-made : (j : ℕ) → with_instruction (program_to j) j (spoken (instruction_row p j)) ≡ program_to (suc j)
  unfolding with_instruction
  program-made j = ap (λ (xs : List Instruction). record { edition = p.edition; begun = none_begun; instructions = xs; count = p.count }) (column-set 256 no_instruction (λ r. spoken (instruction_row p r)) _ _ j (up_next j))

  pub program-none : program_to 0 ≡ program_of p.edition p.count
  unfolding program_of no_program
  program-none = ap (λ (xs : List Instruction). record { edition = p.edition; begun = none_begun; instructions = xs; count = p.count }) (column-none 256 no_instruction (λ r. spoken (instruction_row p r)) (λ r. ltb r 0) up_none)

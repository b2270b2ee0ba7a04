-- What a form gives keeps to all limits, as what a sheet gives does.
-- Assumes nothing.
use Prim.Native.Nat.{ℕ, suc, ◌*◌, ◌<◌}
use mathlib.Core.List.{List}
use mathlib.Core.Bool.{Bool, true, false, ◌&&◌}
use mathlib.Core.Path.{◌≡◌, refl, sym, ap, ap₂, subst, ◌∙◌}
use native.Mathlib.Omega.{arith}
use borrow.Author.Tests.{leb-true}
use Rattle.item_spec.specs.Reader.{bytes}
use Rattle.item_spec.proofs.Tests.{by-test}
use Rattle.model.specs.declared.Tables.{Tables}
use Rattle.model.specs.declared.Program.{Program}
use Rattle.model.specs.Empty.{no_program}
use Rattle.read_spec.specs.Limits.{depth_ok, types_ok, places_ok, transitions_ok, behaviors_ok, ports_ok, program_ok, edition_ok}
use Rattle.read_spec.specs.Kinds.{tran_line, behavior_line, port_line, do_line}
use Rattle.read_spec.specs.Fill.{headed, program_of}
use Rattle.read_spec.specs.Texts.{tran_at, behavior_at, port_at, instruction_at}
use Rattle.read_spec.specs.Lawful.{type_lawful, tables_lawful, program_lawful, Lawful}
use Rattle.read_spec.proofs.Rests.{Went, goes, stops, here, limit-fault, Runs, runs_then, runs-give, runs-line, runs-each, runs-end}
use Rattle.read_spec.proofs.Kept.{EndsLawful, SetLawful, PortLawful, reads-count, reads-edition, reads-initial, reads-tran, reads-behavior, reads-port, reads-do}
use Rattle.read_spec.proofs.Slots.{runs-fill, transition_slots, transitions-sound, behavior_slots, behaviors-sound, port_slots, ports-sound, instruction_slots, instructions-sound}
use Rattle.read_spec.proofs.Lawful.{Typed, typed-none, typed-more, sixteen-le, lines-lawful, type-lawful}
use Rattle.read_sheet.specs.Form.{begins, lines_with, counted, type_form, edition_form, form}
use Rattle.form_spec.proofs.TypeForm.{type_groups, type-groups}

-- a count that is not read but counted
runs-counted : (all : Bool) (k : List ℕ) (limit : ℕ → Bool) → Runs (λ (n : ℕ). limit n ≡ true) (counted all k limit)
unfolding counted
runs-counted all k limit s =
    by-test (limit (lines_with all k true s)) (λ e. rw (e, counted) (goes here e)) (λ e. rw (e, counted) (stops here limit-fault))

runs-groups : (d N i : ℕ) (t : Tables) → i < 16 → Typed d N i t → Runs (Typed d N (suc i)) (type_groups i t)
unfolding type_groups tran_at behavior_at port_at
runs-groups d N i t h w =
    runs_then (runs-line (reads-count (bytes "type=") places_ok)) (λ n cn.
    let ln = sixteen-le n cn in
    runs_then (runs-line (reads-initial n (omega arith))) (λ m cm.
    runs_then (runs-counted false (bytes "tran=") transitions_ok) (λ k ck.
    let lk = leb-true k 32 ck in
    runs_then (runs-fill transition_slots transitions-sound (EndsLawful n) (tran_line n) (reads-tran n) k (i * 32) t.transitions (omega arith) w.transitions.sized) (λ xs fx.
    runs_then (runs-counted false (bytes "behavior=") behaviors_ok) (λ b cb.
    let lb = leb-true b 8 cb in
    runs_then (runs-fill behavior_slots behaviors-sound (SetLawful k) (behavior_line k) (reads-behavior k lk) b (i * 8) t.behaviors (omega arith) w.behaviors.sized) (λ bs fb.
    runs_then (runs-counted false (bytes "port=") ports_ok) (λ p cp.
    let lp = leb-true p 16 cp in
    runs_then (runs-fill port_slots ports-sound (PortLawful n k m) (port_line n k m) (reads-port n k m (omega arith) lk) p (i * 16) t.ports (omega arith) w.ports.sized) (λ qs fq.
    runs-give (typed-more d N i t _ xs bs qs h w (record { places = cn; initial = cm; transitions = ck; behaviors = cb; ports = cp }) fx fb fq)))))))))

runs-type-form : (d N i : ℕ) (t : Tables) → i < 16 → Typed d N i t → Runs (Typed d N (suc i)) (type_form i t)
runs-type-form d N i t h w s = subst (Went (Typed d N (suc i)) s) (sym (type-groups i t s)) (runs-groups d N i t h w s)

-- a number that no row says is 1
runs-edition : Runs (λ e. edition_ok e ≡ true) edition_form
unfolding edition_form
runs-edition s = by-test (begins (bytes "sheet=") s) (λ q. rw q (runs-line reads-edition s)) (λ q. rw q (goes here refl))

pub runs-form : Runs (λ (x : Tables × Program). Lawful x.0 x.1) form
unfolding form instruction_at program_of no_program Lawful tables_lawful program_lawful
runs-form =
    runs_then runs-edition (λ e ce.
    runs_then (runs-line (reads-count (bytes "depth=") depth_ok)) (λ d cd.
    runs_then (runs-counted true (bytes "type=") types_ok) (λ n cn.
    let ln = sixteen-le n cn in
    runs_then (runs-each type_form (Typed d n) n (λ i t l w. runs-type-form d n i t (omega arith) w) n 0 (headed d n) (omega arith) (typed-none d n)) (λ t w.
    runs_then (runs-counted false (bytes "do=") program_ok) (λ k ck.
    let lk = leb-true k 256 ck in
    runs_then (runs-fill (instruction_slots e k) (instructions-sound e k) _ (do_line e n) (reads-do e n) k 0 (program_of e k) (omega arith) (refl, (refl, refl, refl))) (λ p fp.
    runs_then runs-end (λ _ _. runs-give (
      ap₂ ◌&&◌ (ap depth_ok w.depth ∙ cd) (lines-lawful types_ok (type_lawful t) t.count n w.count cn (type-lawful d n n t w)),
      ap₂ ◌&&◌ (ap program_ok fp.sized.1.1 ∙ ck) (lines-lawful (λ _. edition_ok p.edition) _ p.count k fp.sized.1.1 (ap edition_ok fp.sized.1.0 ∙ ce)
          (λ j l. rw (w.count, fp.sized.1.0) (fp.rows j (omega arith) (omega arith)))),
    ))))))))

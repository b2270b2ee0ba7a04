-- An instance by itself: what is held, which ports are active, what leaves and enters a place.
use Rattle.std.specs.Prelude.{Bool, ◌&&◌, ◌||◌, cond, ℕ, eqb}
use Rattle.sets.specs.Mask.{member, collect, only, with, without, joined, overlaps}
use Rattle.model.specs.declared.Tables.{Tables}
use Rattle.model.specs.declared.Instance.{Instance}
use Rattle.model.specs.View.{type_of, source, destination, behavior_in, behavior_of, group_places, group_transitions}

-- "A transition is *held* when running or ended."
abbrev pub held : Instance → ℕ
held v = joined v.running v.ended

-- "A port is *active* when one of its places is marked or one of its transitions held."
unfoldable pub active : Tables → Instance → ℕ → Bool
active t v q = overlaps v.marked (group_places t v.kind q) || overlaps (held v) (group_transitions t v.kind q)

-- how many ports it has
abbrev pub ports_of : Tables → Instance → ℕ
ports_of t v = (type_of t v.kind).ports

-- "a queue of behaviors, whose head is the current one": its set of transitions, none where the queue is empty
unfoldable pub current : Tables → Instance → ℕ → ℕ
current t v head = cond (eqb v.queued 0) 0 (behavior_of t v.kind (behavior_in head))

-- transition x of the set m has this end at p
unfoldable pub ends_at : (ℕ → ℕ) → ℕ → ℕ → ℕ → Bool
ends_at end m p x = member x m && eqb (end x) p

-- the transitions of the behavior m of type k that leave p, and those that lead to p
unfoldable pub leaving : Tables → ℕ → ℕ → ℕ → ℕ
leaving t k m p = collect 32 (ends_at (source t k) m p)

unfoldable pub entering : Tables → ℕ → ℕ → ℕ → ℕ
entering t k m p = collect 32 (ends_at (destination t k) m p)

-- "The mark goes and all of them run", the transitions xs
unfoldable pub fired : Instance → ℕ → ℕ → Instance
fired v p xs =
    record { present = v.present; kind = v.kind; marked = without v.marked (only p); running = joined v.running xs; ended = v.ended; queued = v.queued }

-- "it becomes ended", the transition x that was running
unfoldable pub ended_by : Instance → ℕ → Instance
ended_by v x =
    record { present = v.present; kind = v.kind; marked = v.marked; running = without v.running (only x); ended = with x v.ended; queued = v.queued }

-- "They are then neither running nor ended, and p is marked", the transitions xs
unfoldable pub entered : Instance → ℕ → ℕ → Instance
entered v p xs =
    record { present = v.present; kind = v.kind; marked = with p v.marked; running = without v.running xs; ended = without v.ended xs; queued = v.queued }

-- v with n behaviors queued
unfoldable pub with_queued : Instance → ℕ → Instance
with_queued v n =
    record { present = v.present; kind = v.kind; marked = v.marked; running = v.running; ended = v.ended; queued = n }

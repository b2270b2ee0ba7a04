-- What an instance has and may do by itself: the ends of its transitions, its active ports, the places that may be left, the ports that refuse.
use Rattle.std.specs.Prelude.{Bool, not, ◌&&◌, ◌||◌, cond, ℕ, eqb, ltb}
use Rattle.sets.specs.Test.{any_below}
use Rattle.sets.specs.Mask.{overlaps}
use Rattle.model.specs.declared.Tables.{Tables}
use Rattle.model.specs.declared.Instance.{Instance}
use Rattle.model.specs.declared.Configuration.{Configuration}
use Rattle.model.specs.View.{source, destination, group_places, group_transitions, instance}
use Rattle.rules_spec.specs.Instance.{held, active, leaving, fired}
use Rattle.rules_spec.specs.Ports.{behavior, would_leave, refusing}
use Rattle.rules_spec.specs.Finish.{may_leave}

-- the end of transition x, where it leaves or where it leads
abbrev pub end_of : Tables → Bool → ℕ → ℕ → ℕ
end_of t out k x = cond out (source t k x) (destination t k x)

-- port q of an instance of type k is active where these places are marked and these transitions held
abbrev pub active_with : Tables → ℕ → ℕ → ℕ → ℕ → Bool
active_with t k marked held q = overlaps marked (group_places t k q) || overlaps held (group_transitions t k q)

-- of one of the 16 places that is marked: it may be left, and where not any such place counts firing it would make port q inactive
unfoldable pub leaves_by : Tables → Instance → ℕ → Bool → ℕ → ℕ → Bool
leaves_by t v m any q p =
    ltb p 16 && (not (eqb (leaving t v.kind m p) 0)
    && (any || (not (overlaps (leaving t v.kind m p) (held v)) && not (active t (fired v p (leaving t v.kind m p)) q))))

-- the marked places that may be left, and of them those whose leaving would make port q inactive
abbrev pub left_by : Tables → Instance → ℕ → Bool → ℕ → ℕ → Bool
left_by t v m any q = cond any (may_leave t v m) (would_leave t v m q)

-- some place may be left so by the current behavior of i
abbrev pub some_leaves : Tables → Configuration → ℕ → Bool → ℕ → Bool
some_leaves t c i any q = any_below 16 (left_by t (instance c i) (behavior t c i) any q)

-- provide port q of instance i refuses
abbrev pub refusing_at : Tables → Configuration → ℕ → ℕ → Bool
refusing_at t c i q = refusing t (instance c i) (behavior t c i) q

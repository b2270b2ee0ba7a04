-- The four checks of ports, 38, 34, 35 and 36, where instance i goes from v to w and the connections x stand.
use Rattle.std.specs.Prelude.{Bool, not, ◌&&◌, cond, ◌||◌, ℕ, ◌<◌, ◌≡◌, eqb}
use Rattle.sets.specs.Test.{any_below, lowest}
use Rattle.sets.specs.Mask.{member, collect, overlaps, within}
use Rattle.model.specs.declared.Tables.{Tables}
use Rattle.model.specs.declared.Instance.{Instance}
use Rattle.model.specs.declared.Connection.{Connection}
use Rattle.model.specs.declared.Configuration.{Configuration}
use Rattle.model.specs.declared.Concerned.{Concerned}
use Rattle.model.specs.declared.Concerned.TheVariants.{NoPort, UsePort}
use Rattle.model.specs.View.{is_use, instance, queue_head}
use Rattle.rules_spec.specs.Refusal.{◌⇒◌∣◌, allowed, unserved, provider_refusing, service_in_use, unconnected}
use Rattle.rules_spec.specs.Standing.{Standing}
use Rattle.rules_spec.specs.Instance.{held, active, ports_of, current, leaving, entering, fired, entered}

-- the current behavior of instance i
abbrev pub behavior : Tables → Configuration → ℕ → ℕ
behavior t c i = current t (instance c i) (queue_head c i)

-- "some marked place [p] of its instance has leaving transitions in the current behavior [m], none held, whose firing would make the port [q] inactive"
unfoldable pub would_leave : Tables → Instance → ℕ → ℕ → ℕ → Bool
would_leave t v m q p =
    member p v.marked && (not (eqb (leaving t v.kind m p) 0)
    && (not (overlaps (leaving t v.kind m p) (held v)) && not (active t (fired v p (leaving t v.kind m p)) q)))

-- "some place [p] could be entered by the rules for tokens, its ports aside, and entering it would make the port [q] inactive"
unfoldable pub would_enter : Tables → Instance → ℕ → ℕ → ℕ → Bool
would_enter t v m q p =
    not (eqb (entering t v.kind m p) 0) && (within (entering t v.kind m p) v.ended
    && (not (member p v.marked) && not (active t (entered v p (entering t v.kind m p)) q)))

-- "A provide port is *refusing* when it is active and" one of the 16 places would be left so, or entered so
unfoldable pub refusing : Tables → Instance → ℕ → ℕ → Bool
refusing t v m q = active t v q && (any_below 16 (would_leave t v m q) || any_below 16 (would_enter t v m q))

-- the connection joins the use port q of i to an active provide port; to a refusing one
unfoldable pub serves : Tables → Configuration → ℕ → ℕ → Connection → Bool
serves t c i q k = eqb k.user i && (eqb k.useport q && active t (instance c k.provider) k.provideport)

unfoldable pub blocks : Tables → Configuration → ℕ → ℕ → Connection → Bool
blocks t c i q k =
    eqb k.user i && (eqb k.useport q && refusing t (instance c k.provider) (behavior t c k.provider) k.provideport)

-- the connection joins an active use port to the provide port q of i
unfoldable pub employs : Tables → Configuration → ℕ → ℕ → Connection → Bool
employs t c i q k = eqb k.provider i && (eqb k.provideport q && active t (instance c k.user) k.useport)

-- the connection is that of the use port q of i
unfoldable pub is_of : ℕ → ℕ → Connection → Bool
is_of i q k = eqb k.user i && eqb k.useport q

-- "38, unconnected use port, tested over all ports right before 34"
unfoldable pub fails_unconnected : Tables → Standing → Configuration → ℕ → Instance → ℕ → Bool
fails_unconnected t x c i w q = is_use t w.kind q && (active t w q && not (x.some (is_of i q)))

-- "Each use port active after must be connected to an active provide port"
unfoldable pub fails_unserved : Tables → Standing → Configuration → ℕ → Instance → ℕ → Bool
fails_unserved t x c i w q = is_use t w.kind q && (active t w q && not (x.some (serves t c i q)))

-- "If it was inactive before, that provide port must not be refusing"
unfoldable pub fails_refusing : Tables → Standing → Configuration → ℕ → Instance → Instance → ℕ → Bool
fails_refusing t x c i v w q = is_use t w.kind q && (active t w q && (not (active t v q) && x.some (blocks t c i q)))

-- "Each provide port active before and inactive after must have no active use port connected"
unfoldable pub fails_in_use : Tables → Standing → Configuration → ℕ → Instance → Instance → ℕ → Bool
fails_in_use t x c i v w q = not (is_use t w.kind q) && (active t v q && (not (active t w q) && x.some (employs t c i q)))

-- the provide ports of i that have an active use port connected
unfoldable pub in_use : Tables → Standing → Configuration → ℕ → ℕ
in_use t x c i = collect 32 (λ q. x.some (employs t c i q))

-- what a check of the ports looks at
abbrev pub PortCheck : Type 0
PortCheck = Tables → Standing → Configuration → ℕ → Instance → Instance → ℕ

-- "Only the moving instance's own ports are tested"; "Checks 34, 35 and 36 each run over all ports before the next", and 38 "right before 34"
unfoldable pub port_check : PortCheck
port_check t x c i v w =
    any_below (ports_of t v) (fails_unconnected t x c i w) ⇒ unconnected
    ∣ any_below (ports_of t v) (fails_unserved t x c i w) ⇒ unserved
    ∣ any_below (ports_of t v) (fails_refusing t x c i v w) ⇒ provider_refusing
    ∣ any_below (ports_of t v) (fails_in_use t x c i v w) ⇒ service_in_use
    ∣ allowed

-- "the use port concerned, the lowest one that fails .. it is `-` for every verdict but 34 and 38": by the number n
unfoldable pub concerned : Tables → Standing → Configuration → ℕ → Instance → Instance → ℕ → Concerned
concerned t x c i v w n =
    cond (eqb n unconnected) (UsePort (lowest (ports_of t v) (fails_unconnected t x c i w)))
    (cond (eqb n unserved) (UsePort (lowest (ports_of t v) (fails_unserved t x c i w))) NoPort)

-- 36 by the set of the ports in use: one set serves all ports
unfoldable pub InUseByTheSet : Type 0
InUseByTheSet =
    (t : Tables) (x : Standing) (c : Configuration) (i : ℕ) (v w : Instance) (q : ℕ)
    → q < 32
    → fails_in_use t x c i v w q ≡ (not (is_use t w.kind q) && (active t v q && (not (active t w q) && member q (in_use t x c i))))

-- What a step that is allowed leaves in every slot of the lent configuration. Where connections are kept by use port, `con` sets the slot of its
-- use port and `dcon` zeroes it; `finish` closes the gap and zeroes "the slot freed, `del` zeroes the whole record, and `add` zeroes all
-- queue slots." All other slots keep what they hold, free ones too.
use Rattle.std.specs.Prelude.{ℕ, suc, ◌-◌, ◌<◌, cond, ◌≡◌, eqb, ltb, length}
use Rattle.model.specs.declared.Tables.{Tables}
use Rattle.model.specs.declared.Program.{Program}
use Rattle.model.specs.declared.Step.{Step}
use Rattle.model.specs.declared.Instance.{Instance}
use Rattle.model.specs.declared.Configuration.{Configuration}
use Rattle.model.specs.Empty.{absent, no_server}
use Rattle.model.specs.View.{instance, slot, port_number, server_number, server}
use Rattle.rules_spec.specs.Instance.{ended_by, with_queued}
use Rattle.rules_spec.specs.Add.{fresh}
use Rattle.rules_spec.specs.Fire.{after_fire}
use Rattle.rules_spec.specs.Enter.{after_enter}
use Rattle.rules_spec.specs.Action.{Action, add, del, pushb, con, dcon, wait, fire, end, enter, finish}
use Rattle.rules_spec.specs.Step.{is_next, action}
use Rattle.hall.specs.Screen.{hall_step}

-- the record of each instance, slot r of its queue, and the slot of each use port by its number
pub record Slots : Type 0 where
  pub instances : ℕ → Instance
  pub queues : ℕ → ℕ → ℕ
  pub servers : ℕ → ℕ

-- instance i has the record w and the queue slots s
abbrev pub in_instance : Configuration → ℕ → Instance → (ℕ → ℕ) → Slots
in_instance c i w s = record {
  instances = λ j. cond (eqb j i) w (instance c j);
  queues = λ j r. cond (eqb j i) (s r) (slot c j r);
  servers = server c.servers;
}

-- the table is f
abbrev pub in_servers : Configuration → (ℕ → ℕ) → Slots
in_servers c f = record { instances = instance c; queues = slot c; servers = f }

-- the use port of number a has the server v
abbrev pub served_by : Configuration → ℕ → ℕ → ℕ → ℕ
served_by c a v s = cond (eqb s a) v (server c.servers s)

-- slot l of f where the gap at `at` is closed in the first n: the later ones move down one, the slot freed is z, those past n stay
unfoldable pub gap_closed : {A : Type 0} → A → ℕ → ℕ → (ℕ → A) → ℕ → A
gap_closed z at n f l = cond (ltb l at) (f l) (cond (ltb (suc l) n) (f (suc l)) (cond (eqb (suc l) n) z (f l)))

unfoldable pub slots : Tables → Configuration → Action → Slots
slots t c (add i k) = in_instance c i (fresh t k) (λ r. 0)
slots t c (del i) = in_instance c i absent (λ r. 0)
slots t c (pushb i b) =
    in_instance c i (with_queued (instance c i) (suc (instance c i).queued)) (λ r. cond (eqb r (instance c i).queued) b.slot (slot c i r))
slots t c (con k) = in_servers c (served_by c (port_number k.user k.useport) (server_number k.provider k.provideport))
slots t c (dcon k) = in_servers c (served_by c (port_number k.user k.useport) no_server)
slots t c (wait i) = in_servers c (server c.servers)
slots t c (fire i p) = in_instance c i (after_fire t c i p) (slot c i)
slots t c (end i x) = in_instance c i (ended_by (instance c i) x) (slot c i)
slots t c (enter i p) = in_instance c i (after_enter t c i p) (slot c i)
slots t c (finish i) =
    in_instance c i (with_queued (instance c i) ((instance c i).queued - 1)) (gap_closed 0 0 (instance c i).queued (slot c i))

-- d has that in each of its slots
pub record Holds (d : Configuration) (x : Slots) : Type 0 where
  pub instances : (j : ℕ) → j < 32 → instance d j ≡ x.instances j
  pub queues : (j r : ℕ) → j < 32 → r < 8 → slot d j r ≡ x.queues j r
  pub servers : (s : ℕ) → s < 512 → server d.servers s ≡ x.servers s

-- as long as its arrays are
pub record Whole (c : Configuration) : Type 0 where
  pub instances : length c.instances ≡ 32
  pub queue : length c.queue ≡ 256
  pub servers : length c.servers ≡ 512

unfoldable pub EverySlot : Type 0
EverySlot =
    (t : Tables) (p : Program) (c : Configuration) (s : Step)
    → Whole c
    → (hall_step t p c s).refused ≡ 0
    → Holds (hall_step t p c s).configuration (slots t c (action p c s))
    × ((hall_step t p c s).configuration.done ≡ cond (is_next s) (suc c.done) c.done)

-- How the session of a connection stands behind the desk's own entries.
use Rattle.std.proofs.Common.{◌≡◌, ◌⊎◌, ℕ, Bool, true, false, not, refl, sym, ap, ◌∙◌, subst, inl, inr}
use Rattle.std.specs.Prelude.{◌&&◌, Option, Some, None, is_some}
use Rattle.std.proofs.lemmas.Bool.{eq-eqb}
use Rattle.std.proofs.lemmas.Option.{none-some}
use Rattle.switch_session.specs.declared.told.End.{End}
use Rattle.machine_moves.specs.Told.{IsOpenedNow, is_end, may_end}
use Rattle.machine_steps.specs.declared.entry.Entry.{Entry}
use Rattle.machine_steps.specs.declared.entry.Entry.TheVariants as entries
use Rattle.machine_steps.specs.declared.entry.Input.{Input}
use Rattle.machine_steps.specs.declared.entry.Input.TheVariants.{Message, Bad}
use Rattle.machine_steps.specs.declared.reply.Reply.{Reply}
use Rattle.machine_steps.specs.declared.reply.Reply.TheVariants as replies
use Rattle.machine_steps.specs.Machine.{Session, State as MachineState, session_at, was_opened}
use Rattle.machine_steps.specs.Sound.{IsSound}
use Rattle.machine_steps.specs.Steps.{EndsSession, HearsInput, Passes, link_end}
use Rattle.machine_desk.specs.declared.hearing.Heard.{Heard}
use Rattle.machine_desk.specs.declared.inbound.Inbound.{Inbound}
use Rattle.machine_desk.specs.declared.inbound.Stage.{Stage}
use Rattle.machine_desk.specs.declared.inbound.Stage.TheVariants.{Live}
use Rattle.machine_desk.specs.Desks.{DeskView, Enters, calls_of}
use Rattle.machine_desk.specs.Driving.{StagingLaws}
use Rattle.machine_desk.specs.Hearing.{Closes, Hears, IsStaged, Opens, heard_by, is_live, stage_heard, stage_opened, was_begun}
use Rattle.machine_desk.proofs.Staying.{IsStill, opened_same, others_leave}

-- ---- where no session is open

module _ (c : ℕ) (m : MachineState) (reply : Reply) (n : MachineState) (none : session_at c m ≡ None) where
  ends_none : (end : End) → EndsSession c end m reply n → Passes m reply n
  ends_none end (inl (is, passes)) = passes
  ends_none end (inr (s, there, r, e)) = absurd (none-some s (sym none ∙ there))

  hears_none : (input : Input) → HearsInput c input m reply n → Passes m reply n
  hears_none (Bad place bad) h = ends_none _ h
  hears_none (Message x) (inl (is, passes)) = passes
  hears_none (Message x) (inr (inl h)) = absurd (none-some h.session (sym none ∙ h.there))
  hears_none (Message x) (inr (inr h)) = absurd (none-some h.session (sym none ∙ h.there))

-- where one is the reply to its end tells so
ends_some : (c : ℕ) (end : End) (m : MachineState) (reply : Reply) (n : MachineState) (s : Session) → session_at c m ≡ Some s → EndsSession c end m reply n → is_end reply ≡ true
ends_some c end m reply n s there (inl (none, passes)) = absurd (none-some s (sym none ∙ there))
ends_some c end m reply n s there (inr (t, at, r, e)) = ap is_end r

-- ---- stages

opened_so : (i : Inbound) (n : MachineState) (end : Bool) → is_some (session_at i.connection n) ≡ not end → was_opened i.connection n ≡ true
    → IsStaged (record i { stage = stage_opened end }) n
opened_so i n true live opened = record { live = live; opened = opened }
opened_so i n false live opened = record { live = live; opened = opened }

-- a live one, by the reply to an input
heard_so : (reply : Reply) (stage : Stage) → is_live stage ≡ true
    → (is_live (stage_heard (heard_by reply) stage) ≡ not (is_end reply)) × (was_begun (stage_heard (heard_by reply) stage) ≡ was_begun stage)
heard_so (replies.Ended end) Live live = (refl, refl)
heard_so reply Live live = (refl, refl)
heard_so reply stage live = absurd (cc)

module _ (laws : StagingLaws) (a b : DeskView) (i : Inbound) (sound : IsSound a.now) where
  module _ (entry : Entry) (reply : Reply) (e : Enters a entry reply b) where
    sound_too : IsSound e.between
    sound_too = laws.sound a.now (calls_of e.others) e.between sound (laws.calls a.now e.others e.between sound e.meanwhile).replays

    still : IsStill i.connection a.now e.between
    still = others_leave laws.connections i.connection (calls_of a.past) e.others a.now e.between e.allowed e.meanwhile

    staged_too : IsStaged i a.now → IsStaged i e.between
    staged_too h = record { live = still.0 ∙ h.live; opened = still.1 ∙ h.opened }

    -- an open session is open behind an entry of its connection where the reply tells no end
    open_behind : (s : Session) → session_at i.connection e.between ≡ Some s → may_end i.connection entry ≡ true → is_some (session_at i.connection b.now) ≡ not (is_end reply)
    open_behind s there may =
        laws.ends e.between entry reply b.now sound_too e.made.steps i.connection s there ∙ ap (λ x. not (x && is_end reply)) may

  pub opens_staged : (j : Inbound) → Opens a i b j → was_opened i.connection a.now ≡ false → IsStaged j b.now
  opens_staged j h new_one =
      let e = h.asks.enters in
      let entry = entries.Open i.connection in
      let unopened = (still entry h.reply e).1 ∙ new_one in
      subst (λ (x : Inbound). IsStaged x b.now) (sym h.stage) (begun (laws.opens e.between i.connection h.reply b.now (sound_too entry h.reply e) unopened e.made.steps))
    where
      begun : IsOpenedNow i.connection h.reply b.now ⊎ ((h.reply ≡ replies.NoMemory) × (b.now ≡ h.asks.enters.between)) → IsStaged (record i { stage = stage_opened (is_end h.reply) }) b.now
      begun (inl now) = opened_so i b.now (is_end h.reply) now.session now.opened
      begun (inr (lacks, same)) = absurd (h.asks.memory lacks)

  pub hears_staged : (input : Input) (heard : Heard) (j : Inbound) → Hears input heard a i b j → IsStaged i a.now → IsStaged j b.now
  hears_staged input heard j h was = go (session_at i.connection e.between) refl
    where
      entry : Entry
      entry = entries.Heard i.connection input

      e : Enters a entry h.reply b
      e = h.asks.enters

      staged : IsStaged i e.between
      staged = staged_too entry h.reply e was

      is : j ≡ record i { stage = stage_heard (heard_by h.reply) i.stage }
      is = h.stage ∙ ap (λ x. record i { stage = stage_heard x i.stage }) h.heard_is

      go : (o : Option Session) → session_at i.connection e.between ≡ o → IsStaged j b.now
      go None none =
          let passes = hears_none i.connection e.between h.reply b.now none input e.made.steps in
          let same : j ≡ i = is ∙ ap (λ r. record i { stage = stage_heard (heard_by r) i.stage }) passes.0 in
          subst (λ (x : Inbound). IsStaged x b.now) (sym same) (subst (IsStaged i) (sym passes.1) staged)
      go (Some s) there =
          let so = heard_so h.reply i.stage (sym staged.live ∙ ap is_some there) in
          subst (λ (x : Inbound). IsStaged x b.now) (sym is) (record {
            live = open_behind entry h.reply e s there (eq-eqb i.connection i.connection refl) ∙ sym so.0;
            opened = opened_same laws.connections e.between entry h.reply b.now e.made.steps refl i.connection ∙ staged.opened ∙ sym so.1;
          })

  pub closes_staged : (fault : Bool) (j : Inbound) → Closes fault a i b j → was_begun i.stage ≡ true → IsStaged i a.now → IsStaged j b.now
  closes_staged fault j h begun was = subst (λ (x : Inbound). IsStaged x b.now) (sym h.stage) (record {
    live = shut (session_at i.connection e.between) refl;
    opened = opened_same laws.connections e.between entry h.reply b.now e.made.steps refl i.connection ∙ (staged_too entry h.reply e was).opened ∙ begun;
  })
    where
      entry : Entry
      entry = entries.Gone i.connection fault

      e : Enters a entry h.reply b
      e = h.enters

      shut : (o : Option Session) → session_at i.connection e.between ≡ o → is_some (session_at i.connection b.now) ≡ false
      shut None none =
          let passes = ends_none i.connection e.between h.reply b.now none (link_end fault) e.made.steps in
          ap (λ m. is_some (session_at i.connection m)) passes.1 ∙ ap is_some none
      shut (Some s) there =
          open_behind entry h.reply e s there (eq-eqb i.connection i.connection refl)
          ∙ ap not (ends_some i.connection (link_end fault) e.between h.reply b.now s there e.made.steps)

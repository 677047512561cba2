-- Each turn of the machine leads each session that stays open from a stage into one.
use Rattle.std.proofs.Common.{◌≡◌, ℕ, Bool, true, false, [], ◌++◌, refl, sym, ap, ◌∙◌, subst, subst₂, inl, inr, ⊎_elim, arith}
use Rattle.std.specs.Prelude.{◌==◌, None, if◌then◌else◌}
use Rattle.std.proofs.lemmas.Bool.{cases_Bool, eqb-true}
use Rattle.std.proofs.lemmas.Option.{same_Some, none-some}
use Rattle.of10_codec.specs.declared.message.Message.{Message}
use Rattle.device_port.specs.Switches.{IsFreeBody}
use Rattle.machine_steps.specs.declared.entry.Entry.{Entry}
use Rattle.machine_steps.specs.declared.entry.Entry.TheVariants as entries
use Rattle.machine_steps.specs.declared.entry.Input.TheVariants.{Message as Whole, Bad}
use Rattle.machine_steps.specs.declared.reply.Reply.{Reply}
use Rattle.machine_steps.specs.Machine.{Session, State, is_live, session_at}
use Rattle.machine_steps.specs.Sound.{IsEarly, IsSound}
use Rattle.machine_moves.specs.MoveLaws.{Grows}
use Rattle.machine_moves.specs.Moves.{Fares, HearsOne, HearsBy, TakesBy, IsAcknowledged, IsBrokenOff, MovesBy, PutsAndIsLed, MayBeLed}
use Rattle.world_steps.specs.Worlds.{Link, lacks_memory, messages_for, outbox_of}
use Rattle.world_steps.specs.Since.{Marks}
use Rattle.world_stages.specs.Flights.{controls}
use Rattle.world_stages.specs.FlightLaws.{heard, filled, emptied, with_messages}
use Rattle.world_stages.specs.StageLaws.{IsPlaced, IsTurnAt, LinkBehind, HearsOwn, TakesOwn, TurnsKeepStages}
use Rattle.world_stages.proofs.Steady.{in_order}
use Rattle.world_stages.proofs.Premises.{LowerLaws}
use Rattle.world_stages.proofs.Alike.{linked_alike}
use Rattle.world_stages.proofs.Backing.{headed, is_early}
use Rattle.world_stages.proofs.Arriving.{Comes}
use Rattle.world_stages.proofs.Leading.{IsReady, may_be_led}
use Rattle.world_stages.proofs.TurnHearing.{IsHeardAt, sends, idles}
use Rattle.world_stages.proofs.Joining.{greets, accepts}
use Rattle.world_stages.proofs.Answering.{batch_parts, acknowledges, breaks}
use Rattle.world_stages.proofs.Lacking.{lacks_nothing}

module _ (laws : LowerLaws) (old new : State) (marks : Marks) (grows : Grows old new) (sound : IsSound new) where
  -- a session that is led, or not, behind whatever it sent
  led : (s t : Session) (k : Link) → IsReady old marks s k → MayBeLed new s t → Comes old new marks s k t
  led s t k ready l = may_be_led laws old new marks grows sound s k ready t l

  puts : (s t : Session) (k : Link) → IsReady old marks s k → PutsAndIsLed new s t → Comes old new marks s k t
  puts s t k ready p =
      led (with_messages p.puts.messages s) t k (sends laws old marks s k ready p.puts.messages p.puts.others) (subst (λ u. MayBeLed new u t) p.puts.now_is p.led)

  -- ---- messages are taken out

  takes : (s : Session) (l : Link) → IsReady old marks s l → Comes old new marks s (filled s.outbox l) (emptied s)
  takes s l ready =
      let h = laws.taken s l in
      led (emptied s) (emptied s) (filled s.outbox l)
      (record {
        headed = λ live. (let known = ready.headed live in record { capacity = known.capacity; backed = known.backed });
        linked = linked_alike laws.agree s l [] s.used s.prepared (l.to ++ s.outbox) l.switch.sent (ap controls h.line) refl old marks ready.linked (h.numbered ready.linked.numbered) ready.linked.tells;
      })
      (inl refl)

  -- ---- a message is heard

  module _ (s : Session) (l : Link) (ready : IsReady old marks s l) (idle : s.prepared ≡ None) (early : is_live s ≡ false → IsEarly old s) (x : Message) (t : Session) (k : Link) where
    replied : IsAcknowledged x s t → IsHeardAt x l k → Comes old new marks s k t
    replied a (inl (later, first, is)) =
        subst (λ h. Comes old new marks s h t) (sym is) (acknowledges laws old new marks grows sound s l ready x later first idle early t a)
    replied a (inr (free, is)) = absurd (subst (IsFreeBody x.xid) a.reply free)

    refused : IsBrokenOff x s t → IsHeardAt x l k → Comes old new marks s k t
    refused b (inl (later, first, is)) = subst (λ h. Comes old new marks s h t) (sym is) (breaks laws old new marks grows sound s l ready x later first t b)
    refused b (inr (free, is)) =
        let none : x.xid ≡ 0 = subst (IsFreeBody x.xid) b.error free in
        let above = (batch_parts x.xid s b.of_change.0).1 in
        absurd (omega arith)

    hears : HearsOne x new s t → IsHeardAt x l k → Comes old new marks s k t
    hears (inl (i, p)) at = puts s t k (idles laws old marks s l ready x k i at) p
    hears (inr (inl g)) at = greets laws old new marks s l ready x t k g at
    hears (inr (inr (inl a))) at = accepts laws old new marks s l ready x early t k a at
    hears (inr (inr (inr (inl a)))) at = replied a at
    hears (inr (inr (inr (inr b)))) at = refused b at

-- ---- what becomes of the link

heard_at : (x : Message) (l k : Link) (lacks : Bool) → lacks ≡ false → HearsOwn true x lacks l k → IsHeardAt x l k
heard_at x l k lacks e (inl (later, first, is)) = inl (later, first, is ∙ ap (λ b. if b then l else heard l) e)
heard_at x l k lacks e (inr h) = inr h

-- where memory ran out it stays
stays : (c : ℕ) (m : State) (entry : Entry) (reply : Reply) (l k : Link) → lacks_memory reply ≡ true → LinkBehind c m entry reply l k → k ≡ l
stays c m (entries.Heard d (Whole x)) reply l k e h = own (d == c) h
  where
    own : (b : Bool) → HearsOwn b x (lacks_memory reply) l k → k ≡ l
    own true (inl (later, first, is)) = is ∙ ap (λ b. if b then l else heard l) e
    own true (inr (free, is)) = is
    own false is = is
stays c m (entries.TakeOut d) reply l k e h = own (d == c) h
  where
    own : (b : Bool) → TakesOwn b (messages_for d m) (lacks_memory reply) l k → k ≡ l
    own true is = is ∙ ap (λ b. if b then l else filled (messages_for d m) l) e
    own false is = is
stays c m (entries.Heard d (Bad place bad)) reply l k e h = h
stays c m entry reply l k e h = h

-- ---- a turn

module _ (laws : LowerLaws) (c : ℕ) (old new : State) (entry : Entry) (reply : Reply) (marks : Marks) (s t : Session) (l k : Link)
    (placed : IsPlaced c old marks s l) (turn : IsTurnAt c old entry reply new t l k) where
  grows : Grows old new
  grows = laws.grow old entry reply new turn.steps

  ready : IsReady old marks s l
  ready = record { headed = λ live. headed c old s placed.sound placed.there live; linked = placed.linked }

  idle : s.prepared ≡ None
  idle = (in_order c old s placed.sound placed.there).idle

  early : is_live s ≡ false → IsEarly old s
  early e = is_early c old s placed.sound placed.there e

  abbrev Behind : Type 0
  Behind = Comes old new marks s k t

  -- the messages that wait for its connection are the session's own
  own_messages : (d : ℕ) → d ≡ c → messages_for d old ≡ s.outbox
  own_messages d e = ap (λ n. messages_for n old) e ∙ ap outbox_of (laws.kept old c s placed.sound placed.there)

  module _ (memory : lacks_memory reply ≡ false) where
    taken : (d : ℕ) (b : Bool) → (d == c) ≡ b → TakesBy b s t → TakesOwn b (messages_for d old) (lacks_memory reply) l k → Behind
    taken d true e m is =
        subst₂ (λ h u. Comes old new marks s h u)
        (sym (is ∙ ap (λ b. if b then l else filled (messages_for d old) l) memory ∙ ap (λ ms. filled ms l) (own_messages d (eqb-true d c e)))) (sym m)
        (takes laws old new marks grows turn.sound s l ready)
    taken d false e m is = subst (λ h. Comes old new marks s h t) (sym is) (led laws old new marks grows turn.sound s t l ready (inl m))

    heard_by : (x : Message) (b : Bool) → HearsBy b x new s t → HearsOwn b x (lacks_memory reply) l k → Behind
    heard_by x true m h = hears laws old new marks grows turn.sound s l ready idle early x t k m (heard_at x l k (lacks_memory reply) memory h)
    heard_by x false m is = subst (λ h. Comes old new marks s h t) (sym is) (led laws old new marks grows turn.sound s t l ready m)

    sent : PutsAndIsLed new s t → k ≡ l → Behind
    sent p is = subst (λ h. Comes old new marks s h t) (sym is) (puts laws old new marks grows turn.sound s t l ready p)

    by_entry : (e : Entry) → MovesBy c e new s t → LinkBehind c old e reply l k → Behind
    by_entry (entries.Heard d (Whole x)) m h = heard_by x (d == c) m h
    by_entry (entries.Heard d (Bad place bad)) m h = sent m h
    by_entry (entries.TakeOut d) m h = taken d (d == c) refl m h
    by_entry e m h = sent m h

    fares : Fares c old entry reply new s → Behind
    fares (inl (lack, same)) = let not_so = ap lacks_memory lack in absurd (cc)
    fares (inr (inl gone)) = absurd (none-some t (sym gone ∙ turn.there))
    fares (inr (inr b)) = by_entry entry (subst (MovesBy c entry new s) (same_Some b.behind t (sym b.there ∙ turn.there)) b.moves) turn.link

  -- memory ran out: nothing changes
  unchanged : lacks_memory reply ≡ true → Behind
  unchanged lack =
      let same = lacks_nothing old entry reply new lack turn.steps in
      subst (λ h. Comes old new marks s h t) (sym (stays c old entry reply l k lack turn.link))
      (led laws old new marks grows turn.sound s t l ready (inl (same_Some t s (sym turn.there ∙ ap (session_at c) same ∙ placed.there))))

  behind : Behind
  behind = ⊎_elim unchanged (λ memory. fares memory (laws.moves old entry reply new placed.sound turn.admitted turn.steps c s placed.there)) (cases_Bool (lacks_memory reply))

pub turns_keep : LowerLaws → TurnsKeepStages
turns_keep laws c old new entry reply marks s t l k placed turn = behind laws c old new entry reply marks s t l k placed turn (λ live. headed c new t turn.sound turn.there live)

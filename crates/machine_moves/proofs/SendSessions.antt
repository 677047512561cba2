-- What a session keeps, so that all that it sends can be offered: it heads for rules that can be sent, by parts that can be, and has numbers left.
use Rattle.std.proofs.Common.{◌≡◌, ℕ, ◌<◌, ◌≤◌, Bool, true, false, List, [], ◌∷◌, refl, sym, ap, ◌∙◌, subst, inl, inr, arith}
use Rattle.std.specs.Prelude.{◌&&◌, not, if◌then◌else◌, Option, Some, None}
use Rattle.std.specs.List.{AllByRecursion}
use Rattle.std.proofs.lemmas.Bool.{and_parts}
use Rattle.maple_base.specs.RuleLists.{Rules}
use Rattle.of10_codec.specs.declared.message.Message.{Message}
use Rattle.of10_codec.specs.Laws.{Spells}
use Rattle.rule_builder.specs.Laws.{NormalLaw}
use Rattle.update_plan.specs.Batches.{no_rules}
use Rattle.update_plan.specs.Laws.{LengthLaw, SentLaw}
use Rattle.update_plan.proofs.Members.{none_in}
use Rattle.switch_session.specs.declared.part.Part.{Part}
use Rattle.switch_session.specs.declared.part.Part.TheVariants.{Clearing}
use Rattle.switch_session.specs.declared.part.UnderWay.{UnderWay}
use Rattle.switch_session.specs.declared.told.Phase.{Phase}
use Rattle.switch_session.specs.declared.told.Phase.TheVariants as phases
use Rattle.switch_session.specs.Calls.{is_live as is_live_phase, opened, acknowledged_by, acknowledged_now, IsUpdate, Accepts}
use Rattle.switch_session.specs.Kept.{is_busy}
use Rattle.switch_session.specs.Lists.{Lists}
use Rattle.switch_session.specs.Parts.{Update, AreParts, last_start, set_config, is_clearing, barrier_of, part_messages}
use Rattle.switch_session.specs.Room.{last_number}
use Rattle.switch_session.specs.Sessions.{put, leaves, starts, next_starts, onward, acknowledged, breaks_off, clears_behind, ended, aimed, aimed_by, first_next}
use Rattle.switch_traces.specs.Laws.{RulesAreList, NoneAreFit}
use Rattle.switch_traces.specs.Lists.{AreRulesOf}
use Rattle.switch_traces.specs.Traces.{Learnings}
use Rattle.trace_tree.specs.declared.node.Trace.{Trace}
use Rattle.machine_steps.specs.Machine.{Session, is_live, traces_in}
use Rattle.machine_steps.specs.Steps.{HeadsFor, AimsBy, AimsOne, AimsAll, switch_of}
use Rattle.machine_steps.proofs.Sound.Zipped.{all_push}
use Rattle.machine_moves.specs.Sends.{CanBeOffered}
use Rattle.machine_moves.proofs.Offers.{all_append, hello_offered, config_offered}
use Rattle.machine_moves.proofs.Parts.{CanBeSent, PartsFit, clearing_part, parts_fit, part_offered, traces_sent}

-- what the lower crates prove of messages, rules and batches
pub record LowerLaws : Type 0 where
  pub spells : Spells
  pub normal : NormalLaw
  pub lengths : LengthLaw
  pub sent : SentLaw
  pub list : RulesAreList
  pub none : NoneAreFit

-- an update that can start
pub record CanStart (n : ℕ) (u : Update) : Type 0 where
  pub rules : CanBeSent n u.rules
  pub parts : PartsFit u.parts

abbrev pub NextCanStart : ℕ → Option Update → Type 0
NextCanStart n None = Unit {0}
NextCanStart n (Some u) = CanStart n u

-- a session whose switch has room for so many rules
pub record Sends (n : ℕ) (s : Session) : Type 0 where
  pub capacity : s.capacity ≡ n
  pub outbox : AllByRecursion CanBeOffered s.outbox
  pub target : CanBeSent n s.target
  pub next : NextCanStart n s.next
  pub to_come : PartsFit s.to_come
  pub numbers : s.used < last_number
  -- at rest numbers are left for one more part
  pub rest : is_busy s.phase s.under_way ≡ false → s.used < last_start

-- a live one at rest
record AtRest (n : ℕ) (s : Session) : Type 0 where
  pub live : is_live s ≡ true
  pub capacity : s.capacity ≡ n
  pub outbox : AllByRecursion CanBeOffered s.outbox
  pub target : CanBeSent n s.target
  pub next : NextCanStart n s.next
  pub left : s.used < last_start

-- the rules of the traces of each switch can be sent
abbrev pub Sendable : ℕ → List Learnings → Type 0
Sendable n learned = (switch : ℕ) (X : Rules) → AreRulesOf (traces_in learned switch) X → CanBeSent n X

busy_live : (phase : Phase) (part : UnderWay) → is_live_phase phase ≡ true → is_busy phase (Some part) ≡ true
busy_live phases.First part l = absurd (cc)
busy_live phases.Second part l = absurd (cc)
busy_live phases.Live part l = refl
busy_live phases.Ended part l = absurd (cc)

idle_live : (phase : Phase) → is_live_phase phase ≡ true → is_busy phase None ≡ false
idle_live phases.First l = absurd (cc)
idle_live phases.Second l = absurd (cc)
idle_live phases.Live l = refl
idle_live phases.Ended l = absurd (cc)

module _ (laws : LowerLaws) (n : ℕ) (room : n ≤ 65535) where
  nothing_sent : CanBeSent n no_rules
  nothing_sent = traces_sent laws.normal laws.list n [] (laws.none.fit n) (λ x c. absurd (none_in x c)) no_rules laws.none.rules

  pub opened_sends : (c : ℕ) → Sends n (opened c n)
  opened_sends c = record { capacity = refl; outbox = (hello_offered laws.spells, tt); target = nothing_sent; next = tt; to_come = tt; numbers = omega arith; rest = λ b. omega arith }

  pub put_sends : (s : Session) (x : Message) → CanBeOffered x → Sends n s → Sends n (put x s)
  put_sends s x fits h = record { capacity = h.capacity; outbox = all_push CanBeOffered s.outbox x h.outbox fits; target = h.target; next = h.next; to_come = h.to_come; numbers = h.numbers; rest = h.rest }

  pub ended_sends : (s : Session) → Sends n s → Sends n (ended s)
  ended_sends s h = record { capacity = h.capacity; outbox = h.outbox; target = nothing_sent; next = tt; to_come = tt; numbers = h.numbers; rest = λ b. absurd (cc) }

  pub emptied_sends : (s : Session) → Sends n s → Sends n (record s { outbox = []; taken = s.used })
  emptied_sends s h = record { capacity = h.capacity; outbox = tt; target = h.target; next = h.next; to_come = h.to_come; numbers = h.numbers; rest = h.rest }

  -- ---- parts leave

  leaves_sends : (lists : Lists) (parts : List Part) (s : Session) → AtRest n s → PartsFit parts → Sends n (leaves lists parts s)
  leaves_sends lists [] s h f = record {
    capacity = h.capacity;
    outbox = h.outbox;
    target = h.target;
    next = h.next;
    to_come = tt;
    numbers = let left = h.left in omega (arith, left);
    rest = λ b. h.left;
  }
  leaves_sends lists (part ∷ parts) s h f =
      let left = h.left in
      let short = f.0.short in
      let number : barrier_of s.used part < last_number = omega (arith, left, short) in
      record {
        capacity = h.capacity;
        outbox = all_append CanBeOffered s.outbox (part_messages s.used part) h.outbox (part_offered laws.spells s.used part f.0 (omega (arith, number)));
        target = h.target;
        next = h.next;
        to_come = f.1;
        numbers = number;
        rest = λ b. let busy = sym (busy_live s.phase (record { clears = is_clearing part; barrier = barrier_of s.used part; lists = lists }) h.live) ∙ b in absurd (cc);
      }

  starts_sends : (u : Update) (s : Session) → CanStart n u → AtRest n s → Sends n (starts u s)
  starts_sends u s f h = leaves_sends (record { from = s.target; to = u.rules }) u.parts (record s { target = u.rules; next = None })
      (record { live = h.live; capacity = h.capacity; outbox = h.outbox; target = f.rules; next = tt; left = h.left }) f.parts

  -- ---- it is aimed

  module _ (s : Session) (h : Sends n s) (live : is_live s ≡ true) where
    -- at rest it can start
    rests : (t : Session) → is_live t ≡ true → t.capacity ≡ s.capacity → t.outbox ≡ s.outbox → CanBeSent n t.target → NextCanStart n t.next → t.used ≡ s.used → s.under_way ≡ None → AtRest n t
    rests t l capacity outbox target next used idle = record {
      live = l;
      capacity = capacity ∙ h.capacity;
      outbox = subst (AllByRecursion CanBeOffered) (sym outbox) h.outbox;
      target = target;
      next = next;
      left = let left = h.rest (ap (is_busy s.phase) idle ∙ idle_live s.phase live) in omega (arith, left, used);
    }

    aimed_sends : (plan : Update) → CanStart n plan → Sends n (aimed plan s)
    aimed_sends plan f = go plan.settled s.under_way refl
      where
        go : (b : Bool) (part : Option UnderWay) → s.under_way ≡ part → Sends n (aimed_by b part plan (record s { prepared = None }))
        go true part e = record { capacity = h.capacity; outbox = h.outbox; target = h.target; next = h.next; to_come = h.to_come; numbers = h.numbers; rest = h.rest }
        go false None e = starts_sends plan (record s { prepared = None }) f (rests (record s { prepared = None }) live refl refl h.target h.next refl e)
        go false (Some part) e = record { capacity = h.capacity; outbox = h.outbox; target = h.target; next = f; to_come = h.to_come; numbers = h.numbers; rest = h.rest }

    -- ---- the first error of a batch

    pub breaks_sends : Sends n (breaks_off s)
    breaks_sends = go s.under_way refl
      where
        go : (part : Option UnderWay) → s.under_way ≡ part → Sends n (clears_behind part s.target (record s { quiet = true; target = no_rules; next = None; prepared = None }))
        go None e =
            leaves_sends (record { from = s.target; to = s.target }) (Clearing ∷ []) (record s { quiet = true; target = no_rules; next = None; prepared = None })
            (rests (record s { quiet = true; target = no_rules; next = None; prepared = None }) live refl refl nothing_sent tt refl e) (clearing_part, tt)
        go (Some part) e = record { capacity = h.capacity; outbox = h.outbox; target = nothing_sent; next = tt; to_come = (clearing_part, tt); numbers = h.numbers; rest = h.rest }

    -- ---- the reply to a barrier

    module _ (left : s.used < last_start) where
      abbrev resting : Session
      resting = record s { ready = true; under_way = None; prepared = None }

      at_rest : AtRest n resting
      at_rest = record { live = live; capacity = h.capacity; outbox = h.outbox; target = h.target; next = h.next; left = left }

      next_sends : (later : Option Update) → NextCanStart n later → Sends n (next_starts later resting)
      next_sends None f = record { capacity = h.capacity; outbox = h.outbox; target = h.target; next = h.next; to_come = h.to_come; numbers = h.numbers; rest = λ b. left }
      next_sends (Some u) f = starts_sends u resting f at_rest

      onward_sends : (lists : Lists) (parts : List Part) → PartsFit parts → Sends n (onward lists parts resting)
      onward_sends lists [] f = next_sends s.next h.next
      onward_sends lists (part ∷ parts) f = leaves_sends lists (part ∷ parts) resting at_rest f

      acknowledged_sends : (lists : Lists) → Sends n (acknowledged lists s)
      acknowledged_sends lists = onward_sends lists s.to_come h.to_come

      pub acknowledged_now_sends : Sends n (acknowledged_now s)
      acknowledged_now_sends = go s.under_way
        where
          go : (part : Option UnderWay) → Sends n (acknowledged_by part s)
          go None = h
          go (Some part) = acknowledged_sends part.lists

  -- ---- rules that it is led to

  -- an update to rules that can be sent
  plan_starts : (s : Session) (X : Rules) (plan : Update) → Sends n s → CanBeSent n X → IsUpdate s X plan → CanStart n plan
  plan_starts s X plan h f is = record {
    rules = subst (CanBeSent n) (sym is.rules) f;
    parts = parts_fit laws.lengths laws.sent n s.target X room h.target f plan.parts (subst (λ c. AreParts c s.target X plan.parts) h.capacity is.parts);
  }

  pub heads_sends : (traces : List Trace) (s t : Session) → Sends n s → is_live s ≡ true → ((X : Rules) → AreRulesOf traces X → CanBeSent n X) → HeadsFor traces s t → Sends n t
  heads_sends traces s t h live can f = subst (Sends n) (sym f.now_is) (aimed_sends s h live f.plan (plan_starts s f.rules f.plan h (can f.rules f.are_rules) f.is_plan))

  aims_one : (learned : List Learnings) (s t : Session) → Sendable n learned → Sends n s → AimsOne learned s t → Sends n t
  aims_one learned s t can h aims = go (is_live s && not s.quiet) refl aims
    where
      go : (b : Bool) → (is_live s && not s.quiet) ≡ b → AimsBy b learned s t → Sends n t
      go true e (inl a) = subst (Sends n) (sym a.1) h
      go true e (inr a) = heads_sends (traces_in learned (switch_of s)) s t h (and_parts (is_live s) (not s.quiet) e).0 (can (switch_of s)) a
      go false e a = subst (Sends n) (sym a) h

  pub aims_all : (learned : List Learnings) (ss ts : List Session) → Sendable n learned → AllByRecursion (Sends n) ss → AimsAll learned ss ts → AllByRecursion (Sends n) ts
  aims_all learned [] ts can h a = subst (AllByRecursion (Sends n)) (sym a) tt
  aims_all learned (s ∷ ss) [] can h a = absurd a
  aims_all learned (s ∷ ss) (t ∷ ts) can h a = (aims_one learned s t can h.0 a.0, aims_all learned ss ts can h.1 a.1)

  -- ---- it is accepted

  pub accepts_sends : (s : Session) (X : Rules) (t : Session) → s.phase ≡ phases.Second → Sends n s → CanBeSent n X → Accepts s X t → Sends n t
  accepts_sends s X t second h f a =
      subst (Sends n) (sym a.now_is)
      (leaves_sends (record { from = s.target; to = s.target }) (Clearing ∷ []) (record (put set_config s) { phase = phases.Live; next = first_next a.update; prepared = None })
      (record {
        live = refl;
        capacity = h.capacity;
        outbox = all_push CanBeOffered s.outbox set_config h.outbox (config_offered laws.spells);
        target = h.target;
        next = first a.update.settled;
        left = h.rest (ap (λ p. is_busy p s.under_way) second);
      }) (clearing_part, tt))
    where
      first : (settled : Bool) → NextCanStart n (if settled then None else Some a.update)
      first true = tt
      first false = plan_starts s X a.update h f a.is_update

-- The reply to a part's barrier leads to the update's next part, to the next update, to the clearing behind an error, or to rest.
use Rattle.std.proofs.Common.{◌≡◌, ◌⊎◌, ℕ, Bool, true, false, List, [], ◌∷◌, ◌++◌, Option, Some, None, refl, sym, ap, subst, inl, inr}
use Rattle.std.specs.Prelude.{IfSome, if◌then◌else◌}
use Rattle.std.specs.List.Sorted.{IsPermutation}
use Rattle.std.proofs.lemmas.List.Sorted.{Contains-permutation, IsPermutation-refl, IsPermutation-sym}
use Rattle.maple_base.specs.declared.decision.Rule.{Rule}
use Rattle.maple_base.specs.declared.decision.TableMod.{TableMod}
use Rattle.maple_base.specs.declared.decision.TableMod.TheVariants.{DeleteAll}
use Rattle.maple_base.specs.RuleLists.{Rules}
use Rattle.of10_codec.specs.declared.message.Message.{Message}
use Rattle.of10_codec.specs.declared.message.Body.TheVariants.{BarrierReply}
use Rattle.update_plan.specs.Batches.{rules_of, no_rules, first_adds, first_deletes, second_adds, second_deletes, IsFirst, IsSecond}
use Rattle.update_plan.specs.Laws.{InSecond, StepsKeep}
use Rattle.update_plan.proofs.Members.{here}
use Rattle.switch_session.specs.declared.part.Part.{Part}
use Rattle.switch_session.specs.declared.part.Part.TheVariants.{Clearing}
use Rattle.switch_session.specs.declared.part.UnderWay.{UnderWay}
use Rattle.switch_session.specs.Parts.{Update, batch_part}
use Rattle.switch_session.specs.Sessions.{next_starts, onward, acknowledged}
use Rattle.device_port.specs.Switches.{message}
use Rattle.machine_steps.specs.Machine.{Session}
use Rattle.world_steps.specs.Worlds.{Link}
use Rattle.world_stages.specs.Flights.{line_of, back_of, AreNumbered, IsClear, IsInFlight}
use Rattle.world_stages.specs.FlightLaws.{HearingKeeps, SignalsAreHeard, HearsReplyOf, HearsRefusal, heard}
use Rattle.world_stages.specs.Stages.{Anything, IsGuarded, IsGuardedByEither, start_of, IsClearing, IsFirstClearing, IsUpdateClearing, IsInFirst, IsInSecond, IsWiping, IsPlanned, GoesOn}
use Rattle.world_stages.proofs.Steady.{first_guarded, second_guarded}
use Rattle.world_stages.specs.Updates.{IsSteady, IsUnderWay, IsRunning, CanStart, GoesOnward, RepliesLeadOn}
use Rattle.world_stages.proofs.Batches.{steady_none, all_done}
use Rattle.world_stages.proofs.Leaving.{AreKnown, LeadOn, IsFree, under, origin_of, second_leads, batches_lead, wiping_leads, updates_start}
use Rattle.world_stages.proofs.Moved.{clear_moved, numbered_moved}

-- the session once the reply was heard, ahead of what follows
abbrev pub answered : Session → Session
answered s = record s { ready = true; under_way = None; prepared = None }

-- what is known then, of a link from which the reply was heard
pub record IsAnswered (part : UnderWay) (s : Session) (l : Link) : Type 0 where
  pub clear : IsClear (answered s) l
  pub numbered : AreNumbered (answered s) l
  pub from : IsSteady s.capacity part.lists.from
  pub to : IsSteady s.capacity part.lists.to
  pub next : IfSome s.next (IsPlanned s)
  pub next_list : IfSome s.next (λ (u : Update). IsSteady s.capacity u.rules)

-- behind the last part of an update, where the table has the rules at which the session aims
pub record IsLast (s : Session) (l : Link) : Type 0 where
  pub to_come : s.to_come ≡ []
  pub hushed : s.quiet ≡ true → (s.next ≡ None) × (s.target ≡ no_rules)
  pub steady : IsSteady s.capacity s.target
  pub table : IsPermutation (rules_of s.target) l.switch.table

module _ (known : AreKnown) (part : UnderWay) (s : Session) (l : Link) (h : IsAnswered part s l) where
  pub last_leads : IsLast s l → GoesOnward part s (next_starts s.next (answered s)) l
  last_leads last = go s.next refl
    where
      noisy : (u : Update) → s.next ≡ Some u → (quiet : Bool) → s.quiet ≡ quiet → quiet ≡ false
      noisy u e false q = refl
      noisy u e true q = let none = (last.hushed q).0 in absurd (cc)

      can : (u : Update) → s.next ≡ Some u → CanStart (answered s) l u
      can u e = record {
        ready = refl;
        noisy = noisy u e s.quiet refl;
        clear = h.clear;
        numbered = h.numbered;
        table = last.table;
        planned = subst (λ n. IfSome n (IsPlanned s)) e h.next;
        from = last.steady;
        to = subst (λ n. IfSome n (λ (v : Update). IsSteady s.capacity v.rules)) e h.next_list;
      }

      go : (next : Option Update) → s.next ≡ next → GoesOnward part s (next_starts next (answered s)) l
      go None e = inr (inr (record {
        none_waits = e;
        under = refl;
        stage = record {
          ready = refl;
          way = h.clear;
          to_come = last.to_come;
          next = e;
          hushed = λ q. (last.hushed q).1;
          table = last.table;
        };
        numbered = h.numbered;
        target = refl;
        next = e;
      }))
      go (Some u) e = inr (inl (record { update = u; waited = e; started = updates_start known (answered s) l u (can u e) }))

  -- the parts that are to come lead on, in a session that isn't quiet
  pub parts_go : s.quiet ≡ false → s.target ≡ part.lists.to → (parts : List Part) → s.to_come ≡ parts → LeadOn parts part.lists (answered s) l → GoesOnward part s (acknowledged part.lists s) l
  parts_go noisy target parts e lead = subst (λ ps. GoesOnward part s (onward part.lists ps (answered s)) l) (sym e) (go parts e lead)
    where
      go : (parts : List Part) → s.to_come ≡ parts → LeadOn parts part.lists (answered s) l → GoesOnward part s (onward part.lists parts (answered s)) l
      go [] e table = last_leads (record {
        to_come = e;
        hushed = λ q. absurd (cc);
        steady = subst (IsSteady s.capacity) (sym target) h.to;
        table = subst (λ X. IsPermutation (rules_of X) l.switch.table) (sym target) table;
      })
      go (p ∷ ps) e lead = inl (record {
        next_part = under part.lists p (answered s);
        under = refl;
        lists = refl;
        stage = inl lead;
        numbered = (known.departs part.lists p ps s.quiet (answered s) l h.clear).numbered h.numbered;
        target = refl;
        next = refl;
      })

  -- behind an error the clearing is to come, and no rules are headed for
  pub wiping_goes : s.quiet ≡ true → (s.to_come ≡ Clearing ∷ []) × (s.target ≡ no_rules) → IsGuarded s.capacity (origin_of s part.lists) l.switch.table ⊎ IsGuarded s.capacity part.lists.to l.switch.table
      → GoesOnward part s (acknowledged part.lists s) l
  wiping_goes quiet goes_on guarded = subst (λ ps. GoesOnward part s (onward part.lists ps (answered s)) l) (sym goes_on.0) (inl (record {
    next_part = under part.lists Clearing (answered s);
    under = refl;
    lists = refl;
    stage = inr (wiping_leads known.departs (answered s) l part.lists refl quiet goes_on.1 h.clear guarded);
    numbered = (known.departs part.lists Clearing [] s.quiet (answered s) l h.clear).numbered h.numbered;
    target = refl;
    next = refl;
  }))

-- ---- a reply to the barrier of a part in flight

reply_only : (barrier first : ℕ) (changes : List TableMod) (quiet : Bool) (done : List TableMod) (s : Session) (l : Link)
    → HearsRefusal first barrier changes done s l (message barrier BarrierReply) ⊎ HearsReplyOf barrier changes quiet done s l (message barrier BarrierReply)
    → HearsReplyOf barrier changes quiet done s l (message barrier BarrierReply)
reply_only barrier first changes quiet done s l (inl h) = let e = ap (λ (m : Message). m.body) h.refusal.is in absurd (cc)
reply_only barrier first changes quiet done s l (inr h) = h

empty_table : (X : Rules) (table : List Rule) → X ≡ no_rules → table ≡ [] → IsPermutation (rules_of X) table
empty_table X table none empty = subst (λ Y. IsPermutation (rules_of Y) table) (sym none) (subst (λ rules. IsPermutation [] rules) (sym empty) (IsPermutation-refl []))

module _ (known : AreKnown) (signals : SignalsAreHeard) (keep : HearingKeeps) (part : UnderWay) (s : Session) (l : Link) (later : List Message) (running : IsRunning part s l)
    (back : back_of l ≡ message part.barrier BarrierReply ∷ later) where
  keeps : StepsKeep s.capacity (start_of s.capacity part) part.lists.to
  keeps = known.step s.capacity part.lists.from part.lists.to running.from.target running.to.target

  answers : (first : ℕ) (changes : List TableMod) (quiet : Bool) (done : List TableMod) → IsInFlight first part.barrier changes quiet done (line_of s l) (back_of l)
      → HearsReplyOf part.barrier changes quiet done s l (message part.barrier BarrierReply)
  answers first changes quiet done flight =
      reply_only part.barrier first changes quiet done s l (signals first part.barrier changes quiet done s l (message part.barrier BarrierReply) later flight back refl)

  answered_now : IsClear s (heard l) → IsAnswered part s (heard l)
  answered_now clear = record {
    clear = clear_moved s (answered s) (heard l) refl clear;
    numbered = numbered_moved s (answered s) (heard l) refl refl refl ((keep s l).numbered running.numbered);
    from = running.from;
    to = running.to;
    next = running.next;
    next_list = running.next_list;
  }

  free : IsClear s (heard l) → s.quiet ≡ false → s.target ≡ part.lists.to → IsFree (answered s) (heard l) part.lists
  free clear noisy target = record { ready = refl; noisy = noisy; target = target; clear = clear_moved s (answered s) (heard l) refl clear; from = running.from; to = running.to }

  -- nothing is to come behind a clearing
  none_to_come : s.to_come ≡ [] → IsLast s (heard l) → IsClear s (heard l) → GoesOnward part s (acknowledged part.lists s) (heard l)
  none_to_come e last clear = subst (λ ps. GoesOnward part s (onward part.lists ps (answered s)) (heard l)) (sym e) (last_leads known part s (heard l) (answered_now clear) last)

  emptied : (Before : List Rule → Type 0) → IsClearing Before part s l → IsClear s (heard l) × (l.switch.table ≡ [])
  emptied Before c =
      let reply = answers c.first (DeleteAll ∷ []) false c.done c.flight in
      (reply.clear, c.cleared (Contains-permutation (DeleteAll ∷ []) c.done DeleteAll (IsPermutation-sym c.done (DeleteAll ∷ []) (reply.all refl)) (here DeleteAll [])))

  behind_first_clearing : IsFirstClearing part s l → GoesOnward part s (acknowledged part.lists s) (heard l)
  behind_first_clearing h = none_to_come h.to_come (record {
    to_come = h.to_come;
    hushed = λ q. let noisy = h.quiet in absurd (cc);
    steady = subst (IsSteady s.capacity) (sym h.target) (steady_none s.capacity part.lists.to running.to);
    table = empty_table s.target l.switch.table h.target (emptied Anything h.clearing).1;
  }) (emptied Anything h.clearing).0

  behind_wiping : IsWiping part s l → GoesOnward part s (acknowledged part.lists s) (heard l)
  behind_wiping h = none_to_come h.to_come (record {
    to_come = h.to_come;
    hushed = λ q. (running.hushed q, h.target);
    steady = subst (IsSteady s.capacity) (sym h.target) (steady_none s.capacity part.lists.to running.to);
    table = empty_table s.target l.switch.table h.target (emptied (IsGuardedByEither s.capacity part) h.clearing).1;
  }) (emptied (IsGuardedByEither s.capacity part) h.clearing).0

  behind_clearing : IsUpdateClearing part s l → GoesOnward part s (acknowledged part.lists s) (heard l)
  behind_clearing h =
      parts_go known part s (heard l) (answered_now cleared.0) h.quiet h.goes_on.1 (batch_part h.first ++ batch_part h.second) h.goes_on.0
      (batches_lead known (answered s) (heard l) part.lists (free cleared.0 h.quiet h.goes_on.1) h.first h.second
      (subst (λ over. IsFirst (if over then no_rules else part.lists.from) part.lists.to h.first) (sym h.over) h.is_first)
      (subst (λ over. IsSecond (if over then no_rules else part.lists.from) part.lists.to h.second) (sym h.over) h.is_second)
      (keeps.first_begins l.switch.table (empty_table (start_of s.capacity part) l.switch.table start cleared.1)))
    where
      cleared : IsClear s (heard l) × (l.switch.table ≡ [])
      cleared = emptied (IsGuarded s.capacity part.lists.from) h.clearing

      start : start_of s.capacity part ≡ no_rules
      start = ap (λ over. if over then no_rules else part.lists.from) h.over

  behind_first : IsInFirst part s l → GoesOnward part s (acknowledged part.lists s) (heard l)
  behind_first h = go s.quiet refl
    where
      reply : HearsReplyOf part.barrier h.changes s.quiet h.done s l (message part.barrier BarrierReply)
      reply = answers h.first h.changes s.quiet h.done h.flight

      begins : s.quiet ≡ false → InSecond (start_of s.capacity part) part.lists.to [] l.switch.table
      begins e =
          keeps.second_begins h.done l.switch.table
          (all_done known.sent (first_adds (start_of s.capacity part) part.lists.to) (first_deletes (start_of s.capacity part) part.lists.to) h.changes h.done h.is_first (reply.all e)) h.table

      go : (quiet : Bool) → s.quiet ≡ quiet → GoesOnward part s (acknowledged part.lists s) (heard l)
      go false e =
          let on = subst (λ q. GoesOn q (batch_part h.second) part s) e h.goes_on in
          parts_go known part s (heard l) (answered_now reply.clear) e on.1 (batch_part h.second) on.0
          (second_leads known (answered s) (heard l) part.lists (free reply.clear e on.1) h.second h.is_second (begins e))
      go true e =
          wiping_goes known part s (heard l) (answered_now reply.clear) e (subst (λ q. GoesOn q (batch_part h.second) part s) e h.goes_on)
          (inl (first_guarded s.capacity part.lists.from part.lists.to running.from.target running.to.target running.from.lasting running.to.lasting h.done l.switch.table h.table))

  behind_second : IsInSecond part s l → GoesOnward part s (acknowledged part.lists s) (heard l)
  behind_second h = go s.quiet refl
    where
      reply : HearsReplyOf part.barrier h.changes s.quiet h.done s l (message part.barrier BarrierReply)
      reply = answers h.first h.changes s.quiet h.done h.flight

      ends : s.quiet ≡ false → IsPermutation (rules_of part.lists.to) l.switch.table
      ends e =
          keeps.ends h.done l.switch.table
          (all_done known.sent (second_adds (start_of s.capacity part) part.lists.to) (second_deletes (start_of s.capacity part) part.lists.to) h.changes h.done h.is_second (reply.all e)) h.table

      go : (quiet : Bool) → s.quiet ≡ quiet → GoesOnward part s (acknowledged part.lists s) (heard l)
      go false e =
          let on = subst (λ q. GoesOn q [] part s) e h.goes_on in
          parts_go known part s (heard l) (answered_now reply.clear) e on.1 [] on.0 (ends e)
      go true e =
          wiping_goes known part s (heard l) (answered_now reply.clear) e (subst (λ q. GoesOn q [] part s) e h.goes_on)
          (inr (second_guarded s.capacity part.lists.from part.lists.to running.from.target running.to.target running.from.lasting running.to.lasting h.done l.switch.table h.table))

  behind : IsUnderWay part s l → GoesOnward part s (acknowledged part.lists s) (heard l)
  behind (inl h) = behind_first_clearing h
  behind (inr (inl (inl h))) = behind_clearing h
  behind (inr (inl (inr (inl h)))) = behind_first h
  behind (inr (inl (inr (inr h)))) = behind_second h
  behind (inr (inr h)) = behind_wiping h

  pub goes_onward : GoesOnward part s (acknowledged part.lists s) (heard l)
  goes_onward = behind running.stage

pub replies_lead_on : AreKnown → SignalsAreHeard → HearingKeeps → RepliesLeadOn
replies_lead_on known signals keep part s l later running back = goes_onward known signals keep part s l later running back

-- Facts about what is made ready for the sessions.
use Rattle.std.proofs.Common.{◌≡◌, ℕ, ◌+◌, ◌<◌, ◌≤◌, zero, suc, Bool, true, false, cond, eqb, List, [], ◌∷◌, ◌++◌, length, get_or, set, drop, take, map, refl, ap, sym, subst, ◌∙◌, arith, inl, inr, Result, Ok, Err, is_err, OnOk, OnErr}
use Rattle.std.specs.Prelude.{Option, Some, None, IfSome, filter, not, ◌&&◌, unwrap_or}
use Rattle.maple_base.specs.declared.decision.Rule.{Rule}
use Rattle.maple_base.specs.RuleLists.{Rules}
use Rattle.std.proofs.lemmas.List.Edits.{map_over_more}
use Rattle.std.proofs.lemmas.List.Elements.{All-from_recursion, All-get_or}
use Rattle.std.specs.List.{AllByRecursion}
use Rattle.trace_tree.specs.declared.node.Leaf.{Leaf}
use Rattle.trace_tree.specs.declared.node.Trace.{Trace}
use Rattle.trace_tree.specs.Stands.{of_leaf}
use Rattle.switch_traces.specs.Traces.{Learnings, those}
use Rattle.switch_traces.specs.Lists.{AreFit, AreRulesOf}
use Rattle.switch_traces.specs.Laws.{NoneAreFit}
use Rattle.switch_session.specs.declared.part.Part.{Part}
use Rattle.switch_session.specs.declared.part.UnderWay.{UnderWay}
use Rattle.switch_session.specs.Parts.{Update as Plan}
use Rattle.switch_session.specs.Sessions.{aimed, aimed_by, leaves, forgets_number, forgotten, heading}
use Rattle.switch_session.specs.Calls.{IsUpdate, IsGood, is_live as is_live_phase}
use Rattle.switch_session.specs.declared.told.Phase.TheVariants.{Live}
use Rattle.switch_session.specs.declared.told.Phase.{Phase}
use Rattle.machine_parts.specs.declared.connection.Connection.{Connection}
use Rattle.machine_steps.specs.Machine.{Session, State, is_live, kept_of, traces_in}
use Rattle.machine_steps.specs.Places.{CanReach, IsHeading}
use Rattle.machine_parts.specs.Sessions.{due, due_all, session_of}
use Rattle.machine_steps.specs.Sound.{AreLearned, HeadsRight, IsSound, IsInOrder}
use Rattle.machine_steps.specs.Steps.{AimsAll, AimsBy, AimsOne, switch_of}
use Rattle.machine_parts.specs.Aiming.{turned, given_up, turns, gives_up, CanTurn, CanReady, IsReadied, AreReadied, CanAim}

-- ---- traces

pub none_kept : (ts : List Trace) → those (λ (l : Leaf). false) ts ≡ []
none_kept [] = refl
none_kept (t ∷ ts) = none_kept ts

-- a switch's traces among those that are left are those of its own that are left
pub left_in : (p : Leaf → Bool) (ls : List Learnings) (switch : ℕ) → traces_in (kept_of p ls) switch ≡ those p (traces_in ls switch)
left_in p [] switch = refl
left_in p (l ∷ ls) switch = by (eqb l.switch switch) (left_in p ls switch)
  where
    by : (b : Bool) → traces_in (kept_of p ls) switch ≡ those p (traces_in ls switch) → cond b (those p l.traces) (traces_in (kept_of p ls) switch) ≡ those p (cond b l.traces (traces_in ls switch))
    by true rest = refl
    by false rest = rest

pub fit_in : (m : State) (none : AreFit m.settings.capacity []) (switch : ℕ) (ls : List Learnings) → AllByRecursion (AreLearned m) ls → AreFit m.settings.capacity (traces_in ls switch)
fit_in m none switch [] h = none
fit_in m none switch (l ∷ ls) h = by (eqb l.switch switch) (fit_in m none switch ls h.1)
  where
    by : (b : Bool) → AreFit m.settings.capacity (traces_in ls switch) → AreFit m.settings.capacity (cond b l.traces (traces_in ls switch))
    by true rest = h.0.fit
    by false rest = rest

pub few : (p : Trace → Bool) (ts : List Trace) → length (filter p ts) ≤ length ts
few p [] = omega arith
few p (t ∷ ts) = by (p t) (few p ts)
  where
    by : (b : Bool) → length (filter p ts) ≤ length ts → length (cond b (t ∷ filter p ts) (filter p ts)) ≤ suc (length ts)
    by true r = omega (arith, r)
    by false r = omega (arith, r)

-- those that are left are all, where they are as many
pub all_left : (p : Trace → Bool) (ts : List Trace) → length (filter p ts) ≡ length ts → filter p ts ≡ ts
all_left p [] h = refl
all_left p (t ∷ ts) h = by (p t) (all_left p ts) h
  where
    by : (b : Bool) → (length (filter p ts) ≡ length ts → filter p ts ≡ ts) → length (cond b (t ∷ filter p ts) (filter p ts)) ≡ suc (length ts) → cond b (t ∷ filter p ts) (filter p ts) ≡ t ∷ ts
    by true rest h = ap (λ (xs : List Trace). t ∷ xs) (rest (omega (arith, h)))
    by false rest h = let r = few p ts in absurd (omega (arith, h, r))

-- ---- sessions

-- an element of a part that was made ready, and the next one
pub untouched : (left : List Learnings) (n : ℕ) (cs ds : List Connection) (d : Connection) → AreReadied left n cs ds → n < length cs → get_or ds n d ≡ get_or cs n d
untouched left n [] ds d h i = absurd (omega (arith, i))
untouched left n (c ∷ cs) [] d h i = absurd h
untouched left zero (c ∷ cs) (e ∷ ds) d h i = h.0
untouched left (suc n) (c ∷ cs) (e ∷ ds) d h i = untouched left n cs ds d h.1 (omega (arith, i))

pub none_yet : (left : List Learnings) (cs : List Connection) → AreReadied left zero cs cs
none_yet left [] = refl
none_yet left (c ∷ cs) = (refl, refl)

pub one_more : (left : List Learnings) (n : ℕ) (cs ds : List Connection) (d e : Connection) → AreReadied left n cs ds → n < length cs → IsReadied left (get_or cs n d) e → AreReadied left (suc n) cs (set ds n e)
one_more left n [] ds d e h i r = absurd (omega (arith, i))
one_more left n (c ∷ cs) [] d e h i r = absurd h
one_more left zero (c ∷ cs) (f ∷ ds) d e h i r = (r, subst (AreReadied left zero cs) (sym h.1) (none_yet left cs))
one_more left (suc n) (c ∷ cs) (f ∷ ds) d e h i r = (h.0, one_more left n cs ds d e h.1 (omega (arith, i)) r)

idle_back : (c : Connection) → c.aim ≡ None → gives_up c ≡ c
idle_back c idle = subst (λ (a : Option Plan). gives_up (record { session = c.session; aim = a }) ≡ record { session = c.session; aim = a }) (sym idle) refl

all_idle : (cs : List Connection) → AllByRecursion (λ (c : Connection). c.aim ≡ None) cs → map gives_up cs ≡ cs
all_idle [] h = refl
all_idle (c ∷ cs) h = let first = idle_back c h.0 in let rest = all_idle cs h.1 in cc

-- what was made ready so far is given up
pub all_back : (left : List Learnings) (n : ℕ) (cs ds : List Connection) → AllByRecursion (λ (c : Connection). c.aim ≡ None) cs → AreReadied left n cs ds → map gives_up ds ≡ cs
all_back left n [] ds idle h = ap (map gives_up) h
all_back left n (c ∷ cs) [] idle h = absurd h
all_back left zero (c ∷ cs) (d ∷ ds) idle h =
    let same : d ∷ ds ≡ c ∷ cs = cc in ap (map gives_up) same ∙ all_idle (c ∷ cs) idle
all_back left (suc n) (c ∷ cs) (d ∷ ds) idle h = let first = h.0.back in let rest = all_back left n cs ds idle.1 h.1 in cc

-- all aims can be aimed at, and the sessions are aimed then
pub all_turn : (left : List Learnings) (cs ds : List Connection) → AreReadied left (length cs) cs ds → AllByRecursion CanTurn ds
all_turn left [] ds h = subst (AllByRecursion CanTurn) (sym h) tt
all_turn left (c ∷ cs) [] h = absurd h
all_turn left (c ∷ cs) (d ∷ ds) h = (h.0.good, all_turn left cs ds h.1)

pub all_aimed : (left : List Learnings) (cs ds : List Connection) → AreReadied left (length cs) cs ds → AimsAll left (map session_of cs) (map session_of (map turns ds))
all_aimed left [] ds h = ap (λ (x : List Connection). map session_of (map turns x)) h
all_aimed left (c ∷ cs) [] h = absurd h
all_aimed left (c ∷ cs) (d ∷ ds) h = (h.0.aims, all_aimed left cs ds h.1)

pub can_aim : (m : State) (cs : List Connection) → AllByRecursion (λ (c : Connection). c.aim ≡ None) cs → AllByRecursion (λ (s : Session). is_live s ≡ true → IsHeading m s) (map session_of cs) → AllByRecursion (CanAim m) cs
can_aim m [] idle h = tt
can_aim m (c ∷ cs) idle h = ((idle.0, h.0), can_aim m cs idle.1 h.1)

-- a sound state can be left
pub sound_can : (m : State) → IsSound m → CanReach m
sound_can m sound = record { ranges = sound.ranges; learned = sound.learned; sessions = over m.sessions sound.sessions }
  where
    over : (ss : List Session) → AllByRecursion (IsInOrder m) ss → AllByRecursion (λ (s : Session). is_live s ≡ true → IsHeading m s) ss
    over [] h = tt
    over (s ∷ ss) h = ((λ live. record { right = h.0.live live; idle = h.0.idle }), over ss h.1)

-- an element of a list that is written over in order
pub walked : {X : Type 0} (f : X → X) (xs ys : List X) (i : ℕ) (x y : X) → i < length xs → ys ≡ map f (take i xs) ++ drop i xs → x ≡ get_or ys i x → y ≡ f (get_or ys i x) → set ys i y ≡ map f (take (i + 1) xs) ++ drop (i + 1) xs
walked {X} f xs ys i x y within so_far is e =
    subst (λ (z : X). set ys i z ≡ map f (take (i + 1) xs) ++ drop (i + 1) xs) (sym (e ∙ ap f (sym is))) (map_over_more f xs ys i x within so_far is)

-- the session that is next
pub pick : (learned left : List Learnings) (n : ℕ) (cs ds : List Connection) (d : Connection) → CanReady learned cs → AreReadied left n cs ds → n < length cs → CanReady learned (get_or ds n d ∷ [])
pick learned left n cs ds d can h i = record {
  state = can.state;
  learned_are = can.learned_are;
  can = can.can;
  sessions = (subst (CanAim can.state) (sym (untouched left n cs ds d h i)) (All-get_or (CanAim can.state) cs n d i (All-from_recursion (CanAim can.state) cs can.sessions)), tt);
}

pub idle_all : (learned : List Learnings) (cs : List Connection) → (can : CanReady learned cs) → AllByRecursion (λ (c : Connection). c.aim ≡ None) cs
idle_all learned cs can = over cs can.sessions
  where
    over : (xs : List Connection) → AllByRecursion (CanAim can.state) xs → AllByRecursion (λ (c : Connection). c.aim ≡ None) xs
    over [] h = tt
    over (x ∷ xs) h = (h.0.0, over xs h.1)

pub err_holds : {T E : Type 0} (r : Result T E) (Q : Type 0) → is_err r ≡ true → OnErr r Q → Q
err_holds (Ok x) Q e h = absurd cc
err_holds (Err x) Q e h = h

pub ok_holds : {T E : Type 0} (r : Result T E) (Q : Type 0) → is_err r ≡ false → OnOk r Q → Q
ok_holds (Ok x) Q e h = h
ok_holds (Err x) Q e h = absurd cc

-- ---- one session

abbrev conn : Session → Option Plan → Connection
conn s a = record { session = s; aim = a }

pub rules_none : (fs bs : List Rule) → fs ≡ [] → bs ≡ [] → NoneAreFit → AreRulesOf [] (record { facts = fs; barriers = bs })
rules_none fs bs f b none =
    subst (λ (x : List Rule). AreRulesOf [] (record { facts = x; barriers = bs })) (sym f)
    (subst (λ (x : List Rule). AreRulesOf [] (record { facts = []; barriers = x })) (sym b) none.rules)

pub fit_at : (learned : List Learnings) (cs : List Connection) (can : CanReady learned cs) (switch : ℕ) → NoneAreFit → AreFit can.state.settings.capacity (traces_in learned switch)
fit_at learned cs can switch none =
    subst (λ (ls : List Learnings). AreFit can.state.settings.capacity (traces_in ls switch)) can.learned_are
    (fit_in can.state (none.fit can.state.settings.capacity) switch can.state.learned can.can.learned)

abbrev OfSwitch : (List Trace → Type 0) → List Learnings → ℕ → Type 0
OfSwitch P ls switch = P (traces_in ls switch)

-- a fact about a switch's traces, in the terms of its session
same_switch : (P : List Trace → Type 0) (learned : List Learnings) (cs : List Connection) (can : CanReady learned cs) (s : Session) (switch : ℕ) → s.dpid ≡ Some switch → P (traces_in learned switch) → P (traces_in can.state.learned (switch_of s))
same_switch P learned cs can s switch number h =
    subst (λ (ls : List Learnings). P (traces_in ls (switch_of s))) (sym can.learned_are)
    (subst (λ (x : Option ℕ). P (traces_in learned (unwrap_or x 0))) (sym number) h)

pub stays : (left : List Learnings) (c : Connection) → c.aim ≡ None → AimsOne left c.session c.session → IsReadied left c c
stays left c idle h = record {
  aims = subst (λ (a : Option Plan). AimsOne left c.session (turned a c.session)) (sym idle) h;
  good = subst (λ (a : Option Plan). IfSome a (IsGood c.session)) (sym idle) tt;
  back = idle_back c idle;
}

-- a session that isn't aimed, and one whose switch loses no trace
pub unaimed : (left : List Learnings) (s : Session) → (is_live s && not s.quiet) ≡ false → AimsOne left s s
unaimed left s h = subst (λ (b : Bool). AimsBy b left s s) (sym h) refl

pub loses_none : (p : Leaf → Bool) (m : State) (s : Session) → HeadsRight m s → length (those p (traces_in m.learned (switch_of s))) ≡ length (traces_in m.learned (switch_of s)) → AimsOne (kept_of p m.learned) s s
loses_none p m s right h = by (is_live s && not s.quiet)
  where
    same : traces_in (kept_of p m.learned) (switch_of s) ≡ traces_in m.learned (switch_of s)
    same = left_in p m.learned (switch_of s) ∙ all_left (of_leaf p) (traces_in m.learned (switch_of s)) h

    by : (b : Bool) → AimsBy b (kept_of p m.learned) s s
    by true = inl (subst (λ (ts : List Trace). AreRulesOf ts (heading s)) (sym same) right.rules, refl)
    by false = refl

-- a session whose switch loses a trace
pub aims_at : (p : Leaf → Bool) (m : State) (s : Session) (rules : Rules) (plan : Plan) → (is_live s && not s.quiet) ≡ true → AreRulesOf (those p (traces_in m.learned (switch_of s))) rules → IsUpdate s rules plan → AimsOne (kept_of p m.learned) s (aimed plan (record s { prepared = Some plan }))
aims_at p m s rules plan h are is =
    subst (λ (b : Bool). AimsBy b (kept_of p m.learned) s (aimed plan (record s { prepared = Some plan }))) (sym h)
    (inr (record {
      rules = rules;
      are_rules = subst (λ (ts : List Trace). AreRulesOf ts rules) (sym (left_in p m.learned (switch_of s))) are;
      plan = plan;
      is_plan = is;
      now_is = refl;
    }))

-- what was prepared for a live session is forgotten
pub forgets : (s : Session) (plan : Plan) → s.phase ≡ Live → s.prepared ≡ None → forgotten (record s { prepared = Some plan }) ≡ s
forgets s plan live idle =
    subst (λ (x : Phase). record s { prepared = None; dpid = forgets_number x s.dpid } ≡ s) (sym live)
    (subst (λ (x : Option Plan). record s { prepared = x } ≡ s) idle refl)

-- how many lines are due stays
starts_due : (s : Session) (rules : Rules) (ps : List Part) → due (leaves (record { from = s.target; to = rules }) ps (record s { prepared = None; target = rules; next = None })) ≡ due s
starts_due s rules [] = refl
starts_due s rules (x ∷ xs) = refl

pub aimed_due : (plan : Plan) (s : Session) → due (aimed plan s) ≡ due s
aimed_due plan s = by plan.settled s.under_way
  where
    by : (settled : Bool) (under_way : Option UnderWay) → due (aimed_by settled under_way plan (record s { prepared = None })) ≡ due s
    by true u = refl
    by false None = starts_due s plan.rules plan.parts
    by false (Some part) = refl

turned_due : (a : Option Plan) (s : Session) → due (turned a s) ≡ due (given_up a s)
turned_due None s = refl
turned_due (Some plan) s = aimed_due plan s

-- how many lines are due stays
pub all_due : (left : List Learnings) (cs ds : List Connection) → AreReadied left (length cs) cs ds → due_all (map session_of (map turns ds)) ≡ due_all (map session_of cs)
all_due left [] ds h = ap (λ (x : List Connection). due_all (map session_of (map turns x))) h
all_due left (c ∷ cs) [] h = absurd h
all_due left (c ∷ cs) (d ∷ ds) h =
    let first : due (turned d.aim d.session) ≡ due c.session = turned_due d.aim d.session ∙ ap (λ (x : Connection). due x.session) h.0.back in
    let rest = all_due left cs ds h.1 in
    omega (arith, first, rest)

pub none_aimed : (ds : List Connection) → AllByRecursion (λ (c : Connection). c.aim ≡ None) (map turns ds)
none_aimed [] = tt
none_aimed (d ∷ ds) = (refl, none_aimed ds)

pub live_phase : (s : Session) → s.phase ≡ Live → is_live s ≡ true
live_phase s live = ap is_live_phase live

both_hold : (a b : Bool) → a ≡ true → b ≡ false → (a && not b) ≡ true
both_hold true false h k = refl
both_hold true true h k = absurd cc
both_hold false b h k = absurd cc

pub right_of : (learned : List Learnings) (c : Connection) (can : CanReady learned (c ∷ [])) → c.session.phase ≡ Live → IsHeading can.state c.session
right_of learned c can live = can.sessions.0.1 (live_phase c.session live)

pub keeps_all : (p : Leaf → Bool) (learned : List Learnings) (c : Connection) (switch : ℕ) → CanReady learned (c ∷ []) → c.session.phase ≡ Live → c.session.dpid ≡ Some switch → length (those p (traces_in learned switch)) ≡ length (traces_in learned switch) → IsReadied (kept_of p learned) c c
keeps_all p learned c switch can live number same =
    let h = same_switch (λ (ts : List Trace). length (those p ts) ≡ length ts) learned (c ∷ []) can c.session switch number same in
    stays (kept_of p learned) c can.sessions.0.0
    (subst (λ (ls : List Learnings). AimsOne (kept_of p ls) c.session c.session) can.learned_are (loses_none p can.state c.session (right_of learned c can live).right h))

pub made_ready : (p : Leaf → Bool) (learned : List Learnings) (c : Connection) (switch : ℕ) (rules : Rules) (plan : Plan) (new : Session)
    → CanReady learned (c ∷ []) → c.session.phase ≡ Live → c.session.quiet ≡ false → c.session.dpid ≡ Some switch
    → AreRulesOf (those p (traces_in learned switch)) rules → IsUpdate c.session rules plan → IsGood new plan → new ≡ record c.session { prepared = Some plan }
    → IsReadied (kept_of p learned) c (record { session = new; aim = Some plan })
made_ready p learned c switch rules plan new can live loud number are is good is_new =
    let own = same_switch (λ (ts : List Trace). AreRulesOf (those p ts) rules) learned (c ∷ []) can c.session switch number are in
    let both = both_hold (is_live c.session) c.session.quiet (live_phase c.session live) loud in
    let back : forgotten new ≡ c.session = ap forgotten is_new ∙ forgets c.session plan live (right_of learned c can live).idle in
    record {
      aims = subst (λ (x : Session). AimsOne (kept_of p learned) c.session (aimed plan x)) (sym is_new)
          (subst (λ (ls : List Learnings). AimsOne (kept_of p ls) c.session (aimed plan (record c.session { prepared = Some plan }))) can.learned_are (aims_at p can.state c.session rules plan both own is));
      good = good;
      back = ap (λ (x : Session). conn x None) back ∙ ap (conn c.session) (sym can.sessions.0.0);
    }

-- A switch joins: what the machine does while the session has its number already and a start prepared is what its relation says of the machine as it was before.
use Rattle.std.proofs.Common.{◌≡◌, ◌≢◌, ℕ, zero, suc, ◌+◌, ◌-◌, ◌<◌, ◌≤◌, Bool, true, false, true≢false, cond, not, ◌&&◌, ◌||◌, List, [], ◌∷◌, ◌++◌, length, map, get_or, Option, Some, None, Result, Ok, Err, OnErr, sym, ap, ap₂, refl, ◌∙◌, subst, inl, inr, ⊎_elim, arith, eq-eqb, ne_eqb, eqb-true}
use Rattle.std.specs.Prelude.{◌==◌, if◌then◌else◌}
use Rattle.std.specs.List.{AllByRecursion, AllPairs, list_any, slice_get}
use Rattle.std.proofs.lemmas.List.Folds.{list_any-append}
use Rattle.maple_base.specs.declared.cells.Port.{Port}
use Rattle.maple_base.specs.RuleLists.{Rules}
use Rattle.env_cells.specs.declared.updates.Update.{Update}
use Rattle.env_cells.specs.declared.updates.Update.TheVariants.{Switch}
use Rattle.env_cells.specs.Environment.{Environment}
use Rattle.env_cells.specs.Changes.{applied}
use Rattle.topo_paths.specs.Scenes.{cell_in}
use Rattle.trace_tree.specs.declared.node.Trace.{Trace}
use Rattle.trace_tree.specs.declared.node.Leaf.{Leaf}
use Rattle.tree_prune.specs.Current.{is_current}
use Rattle.switch_traces.specs.Traces.{Learnings, those}
use Rattle.switch_traces.specs.Lists.{AreRulesOf, AreFit}
use Rattle.report_text.specs.declared.line.Line.TheVariants as lines
use Rattle.switch_session.specs.declared.part.Part.{Part}
use Rattle.switch_session.specs.declared.part.UnderWay.{UnderWay}
use Rattle.switch_session.specs.declared.told.End.{End}
use Rattle.switch_session.specs.declared.told.End.TheVariants as ends
use Rattle.maple_base.specs.declared.update_refused.UpdateRefused.{UpdateRefused}
use Rattle.env_cells.specs.Limits.{IsWithinLimits}
use Rattle.env_cells.specs.Refusals.{refusal_of}
use Rattle.trace_tree.specs.Growth.{scratch}
use Rattle.priority_plan.specs.Rules.{level_limit, levels_of}
use Rattle.switch_traces.specs.Laws.{RulesAreList, FewerAreFit, NoneAreFit}
use Rattle.std.proofs.lemmas.Option.{same_Some, slice_get_within}
use Rattle.core_machine.proofs.Features.{full_refused, room_accepted}
use Rattle.switch_session.specs.declared.told.Phase.TheVariants.{Second}
use Rattle.switch_session.specs.Lists.{Lists}
use Rattle.switch_session.specs.Parts.{Update as Plan, IsList}
use Rattle.switch_session.specs.Sessions.{accepted, ended, heading, leaves, aimed_by}
use Rattle.switch_session.specs.Calls.{IsUpdate, is_live as is_live_phase}
use Rattle.machine_steps.specs.declared.reply.Reply.TheVariants.{NewState}
use Rattle.machine_steps.specs.Machine.{Session, State, state_number, has_ended, is_live, is_served, has_switch, traces_in, put_traces, traces_of, trace_total, kept_of, with_session, with_traces, tells}
use Rattle.machine_steps.specs.Places.{IsHeading, CanReach}
use Rattle.machine_steps.specs.Steps.{AimsBy, AimsOne, AimsAll, Reaches, updated, reached, closes, switch_of, Joins}
use Rattle.machine_steps.specs.Sound.{IsSound, IsCurrent, AreLearned, IsInOrder, AreOthers}
use Rattle.core_machine.specs.Reaching.{ReachesBy}
use Rattle.switch_session.specs.Sessions.{forgotten}
use Rattle.machine_steps.specs.declared.reply.Reply.{Reply}
use Rattle.core_machine.specs.Joining.{IsJoining, Joined, HasStart, Prepares, EndsAt, Enters, EntersOrLacks, change_at, changed_at, closes_at, unheard, no_traces, with_list, with_new, with_plan, traces_behind}
use Rattle.machine_parts.specs.Finding.{is_listed}
use Rattle.machine_parts.proofs.There.{all_there}

-- ---- a list with one element changed

pub changed_there : {X : Type 0} (at : ℕ) (f : X → X) (xs : List X) (x : X) → slice_get xs at ≡ Some x → slice_get (change_at at f xs) at ≡ Some (f x)
changed_there at f [] x h = absurd (cc)
changed_there zero f (y ∷ ys) x h = cc
changed_there (suc at) f (y ∷ ys) x h = changed_there at f ys x h

pub changed_same : {X : Type 0} (at : ℕ) (f g : X → X) (xs : List X) (x : X) → slice_get xs at ≡ Some x → f x ≡ g x → change_at at f xs ≡ change_at at g xs
changed_same at f g [] x h e = refl
changed_same zero f g (y ∷ ys) x h e = let same : y ≡ x = cc in ap (λ z. z ∷ ys) (ap f same ∙ e ∙ sym (ap g same))
changed_same (suc at) f g (y ∷ ys) x h e = ap (λ zs. y ∷ zs) (changed_same at f g ys x h e)

pub changed_twice : {X : Type 0} (at : ℕ) (f g : X → X) (xs : List X) → change_at at f (change_at at g xs) ≡ change_at at (λ x. f (g x)) xs
changed_twice at f g [] = refl
changed_twice zero f g (y ∷ ys) = refl
changed_twice (suc at) f g (y ∷ ys) = ap (λ zs. y ∷ zs) (changed_twice at f g ys)

pub unchanged : {X : Type 0} (at : ℕ) (f : X → X) (xs : List X) (x : X) → slice_get xs at ≡ Some x → f x ≡ x → change_at at f xs ≡ xs
unchanged at f [] x h e = refl
unchanged zero f (y ∷ ys) x h e = let same : y ≡ x = cc in ap (λ z. z ∷ ys) (ap f same ∙ e ∙ sym same)
unchanged (suc at) f (y ∷ ys) x h e = ap (λ zs. y ∷ zs) (unchanged at f ys x h e)

pub map_changed : {X Y : Type 0} (v : X → Y) (at : ℕ) (f : X → X) (xs : List X) (x : X) → slice_get xs at ≡ Some x → v (f x) ≡ v x → map v (change_at at f xs) ≡ map v xs
map_changed v at f [] x h e = refl
map_changed v zero f (y ∷ ys) x h e = let same : y ≡ x = cc in ap (λ z. z ∷ map v ys) (ap (λ z. v (f z)) same ∙ e ∙ sym (ap v same))
map_changed v (suc at) f (y ∷ ys) x h e = ap (λ zs. v y ∷ zs) (map_changed v at f ys x h e)

pub any_changed : {X : Type 0} (p : X → Bool) (at : ℕ) (f : X → X) (xs : List X) (x : X) → slice_get xs at ≡ Some x → p (f x) ≡ p x → list_any p (change_at at f xs) ≡ list_any p xs
any_changed p at f [] x h e = refl
any_changed p zero f (y ∷ ys) x h e = let same : y ≡ x = cc in ap (λ b. b || list_any p ys) (ap (λ z. p (f z)) same ∙ e ∙ sym (ap p same))
any_changed p (suc at) f (y ∷ ys) x h e = ap (λ b. p y || b) (any_changed p at f ys x h e)

length_changed : {X : Type 0} (at : ℕ) (f : X → X) (xs : List X) → length (change_at at f xs) ≡ length xs
length_changed at f [] = refl
length_changed zero f (y ∷ ys) = refl
length_changed (suc at) f (y ∷ ys) = ap suc (length_changed at f ys)

-- a place stays one where all but what is forgotten stays
pub still_within : (at : ℕ) (old new : State) (s : Session) → unheard at new ≡ unheard at old → slice_get old.sessions at ≡ Some s → at < length new.sessions
still_within at old new s e there =
    let lt = slice_get_within (change_at at forgotten old.sessions) at (forgotten s) (changed_there at forgotten old.sessions s there) in
    let same : length (change_at at forgotten new.sessions) ≡ length (change_at at forgotten old.sessions) = ap (λ m. length m.sessions) e in
    let long = length_changed at forgotten new.sessions in
    omega (arith, lt, same, long)

pub on_any_err : {T E P : Type 0} (r : Result T E) → P → OnErr r P
on_any_err (Ok x) p = tt
on_any_err (Err e) p = p

all_from : {X : Type 0} (P Q : X → Type 0) (ys : List X) → ((y : X) → P y → Q y) → AllByRecursion P ys → AllByRecursion Q ys
all_from P Q [] from all = tt
all_from P Q (y ∷ ys) from all = (from y all.0, all_from P Q ys from all.1)

all_changed : {X : Type 0} (P Q : X → Type 0) (at : ℕ) (f g : X → X) (xs : List X) (x : X) → slice_get xs at ≡ Some x → ((y : X) → P y → Q y) → Q (g x) → AllByRecursion P (change_at at f xs) → AllByRecursion Q (change_at at g xs)
all_changed P Q at f g [] x h from here all = tt
all_changed P Q zero f g (y ∷ ys) x h from here all = let same : x ≡ y = cc in (subst (λ z. Q (g z)) same here, all_from P Q ys from all.1)
all_changed P Q (suc at) f g (y ∷ ys) x h from here all = (from y all.0, all_changed P Q at f g ys x h from here all.1)

all_more : {X : Type 0} (P : X → Type 0) (xs : List X) (x : X) → AllByRecursion P xs → P x → AllByRecursion P (xs ++ x ∷ [])
all_more P [] x all here = (here, tt)
all_more P (y ∷ ys) x all here = (all.0, all_more P ys x all.1 here)

-- ---- sessions of different connections

abbrev connection_of : Session → ℕ
connection_of s = s.connection

abbrev AllApart : List ℕ → Type 0
AllApart [] = Unit {0}
AllApart (c ∷ cs) = AllByRecursion (λ d. c ≢ d) cs × AllApart cs

apart_from : (s : Session) (ss : List Session) → ((k : ℕ) (d : Session) → k < length ss → s.connection ≢ (get_or ss k d).connection) → AllByRecursion (λ d. s.connection ≢ d) (map connection_of ss)
apart_from s [] h = tt
apart_from s (t ∷ ts) h = (h 0 t (omega arith), apart_from s ts (λ k d lt. h (suc k) d (omega arith)))

others_apart : (ss : List Session) → AllPairs AreOthers ss → AllApart (map connection_of ss)
others_apart [] h = tt
others_apart (s ∷ ss) h =
    (apart_from s ss (λ k d lt. (h 0 (suc k) d (omega arith) (omega arith)).connections), others_apart ss (λ i j d less within. h (suc i) (suc j) d (omega arith) (omega arith)))

apart_there : (c at : ℕ) (ss : List Session) (s : Session) → AllByRecursion (λ d. c ≢ d) (map connection_of ss) → slice_get ss at ≡ Some s → c ≡ s.connection → ⊥
apart_there c at [] s h there e = absurd (cc)
apart_there c zero (t ∷ ts) s h there e = let same : t ≡ s = cc in h.0 (e ∙ sym (ap connection_of same))
apart_there c (suc at) (t ∷ ts) s h there e = apart_there c at ts s h.1 there e

-- this one in the place of the one of its connection
abbrev replaced : Session → Session → Session
replaced x t = if t.connection == x.connection then x else t

replaced_other : (x t : Session) → (t.connection ≡ x.connection → ⊥) → replaced x t ≡ t
replaced_other x t ne = ap (λ b. cond b x t) (ne_eqb t.connection x.connection ne)

none_replaced : (c : ℕ) (x : Session) (ss : List Session) → c ≡ x.connection → AllByRecursion (λ d. c ≢ d) (map connection_of ss) → map (replaced x) ss ≡ ss
none_replaced c x [] e h = refl
none_replaced c x (t ∷ ts) e h = ap₂ (λ z zs. z ∷ zs) (replaced_other x t (λ f. h.0 (e ∙ sym f))) (none_replaced c x ts e h.1)

-- it is the one at its place
placed : (x s : Session) (at : ℕ) (ss : List Session) → AllApart (map connection_of ss) → slice_get ss at ≡ Some s → s.connection ≡ x.connection → map (replaced x) ss ≡ change_at at (λ _. x) ss
placed x s at [] apart there e = refl
placed x s zero (t ∷ ts) apart there e =
    let same : t ≡ s = cc in
    let tied : t.connection ≡ x.connection = ap connection_of same ∙ e in
    ap₂ (λ z zs. z ∷ zs) (ap (λ b. cond b x t) (eq-eqb t.connection x.connection tied)) (none_replaced t.connection x ts tied apart.0)
placed x s (suc at) (t ∷ ts) apart there e =
    ap₂ (λ z zs. z ∷ zs) (replaced_other x t (λ f. apart_there t.connection at ts s apart.0 there (f ∙ sym e))) (placed x s at ts apart.1 there e)

-- ---- sessions that are aimed

leaves_connection : (lists : Lists) (parts : List Part) (s : Session) → (leaves lists parts s).connection ≡ s.connection
leaves_connection lists [] s = refl
leaves_connection lists (part ∷ parts) s = refl

aimed_connection : (settled : Bool) (w : Option UnderWay) (plan : Plan) (s : Session) → (aimed_by settled w plan s).connection ≡ s.connection
aimed_connection true w plan s = refl
aimed_connection false None plan s = leaves_connection (record { from = s.target; to = plan.rules }) plan.parts (record s { target = plan.rules; next = None })
aimed_connection false (Some part) plan s = refl

aims_connection : (aimed : Bool) (ls : List Learnings) (s t : Session) → AimsBy aimed ls s t → t.connection ≡ s.connection
aims_connection true ls s t h =
    ⊎_elim
    (λ w. ap connection_of w.1)
    (λ w. ap connection_of w.now_is ∙ aimed_connection w.plan.settled s.under_way w.plan (record s { prepared = None }))
    h
aims_connection false ls s t h = ap connection_of h

aims_connections : (ls : List Learnings) (ss ts : List Session) → AimsAll ls ss ts → map connection_of ts ≡ map connection_of ss
aims_connections ls [] ts h = ap (map connection_of) h
aims_connections ls (s ∷ ss) [] h = absurd h
aims_connections ls (s ∷ ss) (t ∷ ts) h = ap₂ (λ c cs. c ∷ cs) (aims_connection (is_live s && not s.quiet) ls s t h.0) (aims_connections ls ss ts h.1)

-- one that isn't live stays
idle_stays : (ls : List Learnings) (s t : Session) → is_live s ≡ false → AimsOne ls s t → t ≡ s
idle_stays ls s t idle h = let still : AimsBy false ls s t = subst (λ b. AimsBy (b && not s.quiet) ls s t) idle h in still

stays_idle : (ls : List Learnings) (s t : Session) → is_live t ≡ false → t ≡ s → AimsOne ls s t
stays_idle ls s t idle same = subst (λ x. AimsOne ls x t) same (subst (λ b. AimsBy (b && not t.quiet) ls t t) (sym idle) refl)

aims_there : (ls : List Learnings) (at : ℕ) (ss ts : List Session) (s : Session) → slice_get ss at ≡ Some s → is_live s ≡ false → AimsAll ls ss ts → slice_get ts at ≡ Some s
aims_there ls at [] ts s there idle h = absurd (cc)
aims_there ls at (x ∷ xs) [] s there idle h = absurd h
aims_there ls zero (x ∷ xs) (t ∷ ts) s there idle h =
    let same : x ≡ s = cc in ap Some (idle_stays ls x t (ap is_live same ∙ idle) h.0 ∙ same)
aims_there ls (suc at) (x ∷ xs) (t ∷ ts) s there idle h = aims_there ls at xs ts s there idle h.1

-- so in its place may stand another that isn't live
aims_back : (ls : List Learnings) (at : ℕ) (g : Session → Session) (ss ts : List Session) (s : Session) → slice_get ss at ≡ Some s → is_live s ≡ false → AimsAll ls (change_at at g ss) ts → AimsAll ls ss (change_at at (λ _. s) ts)
aims_back ls at g [] ts s there idle h = absurd (cc)
aims_back ls zero g (x ∷ xs) [] s there idle h = absurd h
aims_back ls (suc at) g (x ∷ xs) [] s there idle h = absurd h
aims_back ls zero g (x ∷ xs) (t ∷ ts) s there idle h = let same : s ≡ x = cc in (stays_idle ls x s idle same, h.1)
aims_back ls (suc at) g (x ∷ xs) (t ∷ ts) s there idle h = (h.0, aims_back ls at g xs ts s there idle h.1)

-- ---- lists of traces, with one for this switch

module _ (dpid : ℕ) where
  list_there : (ls : List Learnings) → is_listed dpid ls ≡ true → put_traces dpid (traces_in ls dpid) ls ≡ ls
  list_there [] h = absurd (cc)
  list_there (l ∷ ls) h = go (l.switch == dpid) refl h (list_there ls)
    where
      go : (b : Bool) → (l.switch == dpid) ≡ b → (b || is_listed dpid ls) ≡ true → (is_listed dpid ls ≡ true → put_traces dpid (traces_in ls dpid) ls ≡ ls) → cond b (record { switch = dpid; traces = cond b l.traces (traces_in ls dpid) } ∷ ls) (l ∷ put_traces dpid (cond b l.traces (traces_in ls dpid)) ls) ≡ l ∷ ls
      go true e h more = let of_switch : ℕ → Learnings = λ s. record { switch = s; traces = l.traces } in ap (λ s. of_switch s ∷ ls) (sym (eqb-true l.switch dpid e))
      go false e h more = ap (λ zs. l ∷ zs) (more h)

  list_more : (ls : List Learnings) → is_listed dpid ls ≡ false → put_traces dpid (traces_in ls dpid) ls ≡ ls ++ no_traces dpid ∷ []
  list_more [] h = refl
  list_more (l ∷ ls) h = go (l.switch == dpid) h (list_more ls)
    where
      go : (b : Bool) → (b || is_listed dpid ls) ≡ false → (is_listed dpid ls ≡ false → put_traces dpid (traces_in ls dpid) ls ≡ ls ++ no_traces dpid ∷ []) → cond b (record { switch = dpid; traces = cond b l.traces (traces_in ls dpid) } ∷ ls) (l ∷ put_traces dpid (cond b l.traces (traces_in ls dpid)) ls) ≡ l ∷ (ls ++ no_traces dpid ∷ [])
      go true h more = absurd (cc)
      go false h more = ap (λ zs. l ∷ zs) (more h)

  -- what holds of the lists, and of them with an empty one, holds with this switch's
  either_list : (P : List Learnings → Type 0) (ls : List Learnings) → P ls → P (ls ++ no_traces dpid ∷ []) → P (put_traces dpid (traces_in ls dpid) ls)
  either_list P ls same more = go (is_listed dpid ls) refl
    where
      go : (b : Bool) → is_listed dpid ls ≡ b → P (put_traces dpid (traces_in ls dpid) ls)
      go true e = subst P (sym (list_there ls e)) same
      go false e = subst P (sym (list_more ls e)) more

  traces_more : (ls : List Learnings) (switch : ℕ) → traces_in (ls ++ no_traces dpid ∷ []) switch ≡ traces_in ls switch
  traces_more [] switch = go (dpid == switch) []
    where
      go : (b : Bool) (none : List Trace) → cond b none none ≡ none
      go true none = refl
      go false none = refl
  traces_more (l ∷ ls) switch = ap (λ zs. cond (l.switch == switch) l.traces zs) (traces_more ls switch)

  traces_same : (ls : List Learnings) (switch : ℕ) → traces_in (put_traces dpid (traces_in ls dpid) ls) switch ≡ traces_in ls switch
  traces_same ls switch = either_list (λ ks. traces_in ks switch ≡ traces_in ls switch) ls refl (traces_more ls switch)

  total_more : (p : Leaf → Bool) (ls : List Learnings) → trace_total (kept_of p (ls ++ no_traces dpid ∷ [])) ≡ trace_total (kept_of p ls)
  total_more p [] = refl
  total_more p (l ∷ ls) = ap (λ n. length (those p l.traces) + n) (total_more p ls)

  length_more : (ls : List Learnings) → trace_total (ls ++ no_traces dpid ∷ []) ≡ trace_total ls
  length_more [] = refl
  length_more (l ∷ ls) = ap (λ n. length l.traces + n) (length_more ls)

  total_same : (ls : List Learnings) → trace_total (put_traces dpid (traces_in ls dpid) ls) ≡ trace_total ls
  total_same ls = either_list (λ ks. trace_total ks ≡ trace_total ls) ls refl (length_more ls)

kept_in : (p : Leaf → Bool) (switch : ℕ) (ls : List Learnings) → traces_in (kept_of p ls) switch ≡ those p (traces_in ls switch)
kept_in p switch [] = refl
kept_in p switch (l ∷ ls) = go (l.switch == switch) (kept_in p switch ls)
  where
    go : (b : Bool) → traces_in (kept_of p ls) switch ≡ those p (traces_in ls switch) → cond b (those p l.traces) (traces_in (kept_of p ls) switch) ≡ those p (cond b l.traces (traces_in ls switch))
    go true more = refl
    go false more = more

-- a list that is found is that of the switch's traces
pub rules_moved : (e f : Environment) (ts us : List Trace) (rules : Rules) → e ≡ f → ts ≡ us → AreRulesOf (those (is_current (cell_in e)) ts) rules → AreRulesOf (those (is_current (cell_in f)) us) rules
rules_moved e f ts us rules same tied are =
    subst (λ g. AreRulesOf (those (is_current (cell_in g)) us) rules) same (subst (λ vs. AreRulesOf (those (is_current (cell_in e)) vs) rules) tied are)

pub listed_is : (dpid : ℕ) (m : State) → is_listed dpid m.learned ≡ true → with_list dpid m ≡ m
listed_is dpid m e = ap (λ ls. record m { learned = ls }) (list_there dpid m.learned e)

pub unlisted_is : (dpid : ℕ) (m : State) → is_listed dpid m.learned ≡ false → with_list dpid m ≡ with_new dpid m
unlisted_is dpid m e = ap (λ ls. record m { learned = ls }) (list_more dpid m.learned e)

-- what holds of each list, and of none, holds of a switch's traces
of_traces : (P : List Trace → Type 0) (switch : ℕ) (ls : List Learnings) → P [] → AllByRecursion (λ (l : Learnings). P l.traces) ls → P (traces_in ls switch)
of_traces P switch [] none all = none
of_traces P switch (l ∷ ls) none all = go (l.switch == switch) (of_traces P switch ls none all.1)
  where
    go : (b : Bool) → P (traces_in ls switch) → P (cond b l.traces (traces_in ls switch))
    go true more = all.0
    go false more = more

-- ---- the state before the number was heard

module _ (at dpid : ℕ) (h : State) (t : Session) (there : slice_get h.sessions at ≡ Some t) (second : t.phase ≡ Second) (sound : IsSound (unheard at h)) where
  idle : is_live t ≡ false
  idle = ap is_live_phase second

  apart_before : AllApart (map connection_of (change_at at forgotten h.sessions))
  apart_before = others_apart (change_at at forgotten h.sessions) sound.others

  apart_now : AllApart (map connection_of h.sessions)
  apart_now = subst AllApart (map_changed connection_of at forgotten h.sessions t there refl) apart_before

  pub restored : with_session t (unheard at h) ≡ h
  restored =
      ap (λ ss. record h { sessions = ss })
      (placed t (forgotten t) at (change_at at forgotten h.sessions) apart_before (changed_there at forgotten h.sessions t there) refl
      ∙ changed_twice at (λ _. t) forgotten h.sessions ∙ unchanged at (λ _. t) h.sessions t there refl)

  pub same_served : (switch : ℕ) → is_served switch h ≡ is_served switch (unheard at h)
  same_served switch =
      let none : (b : Bool) → (is_live t && b) ≡ false = λ b. ap (λ a. a && b) idle in
      sym (any_changed (λ s. is_live s && has_switch switch s) at forgotten h.sessions t there (none (has_switch switch (forgotten t)) ∙ sym (none (has_switch switch t))))

  pub same_closed : (end : End) → closes_at at t end h ≡ closes (ended t) end (unheard at h)
  same_closed end =
      let before = placed (ended t) (forgotten t) at (change_at at forgotten h.sessions) apart_before (changed_there at forgotten h.sessions t there) refl in
      ap (λ ss. record (closes_at at t end h) { sessions = ss })
      (changed_same at ended (λ _. ended t) h.sessions t there refl ∙ sym (changed_twice at (λ _. ended t) forgotten h.sessions) ∙ sym before)

  early : IsInOrder (unheard at h) (forgotten t)
  early = all_there (IsInOrder (unheard at h)) at (change_at at forgotten h.sessions) (forgotten t) (changed_there at forgotten h.sessions t there) sound.sessions

  pub same_capacity : t.capacity ≡ h.settings.capacity
  same_capacity = (early.early (ap (λ p. not (has_ended p)) second) idle).capacity

  -- the session is accepted behind the update
  module _ (u : Update) (rules : Rules) (plan : Plan) (new : State) (reach : Reaches (with_list dpid (changed_at at (with_plan plan) h)) (updated u (with_list dpid (changed_at at (with_plan plan) h))) new) where
    abbrev next : State
    next = updated u (with_list dpid h)

    abbrev behind : State
    behind = changed_at at (λ _. t) new

    reaches_on : Reaches (unheard at h) next behind
    reaches_on = record {
      sessions = change_at at (λ _. t) reach.sessions;
      aims = aims_back next.learned at (with_plan plan) h.sessions reach.sessions t there idle reach.aims;
      now_is =
          ap (changed_at at (λ _. t)) reach.now_is
          ∙ ap (λ n. tells (lines.State (state_number next) (n - trace_total next.learned)) (record next { sessions = change_at at (λ _. t) reach.sessions })) (total_same dpid h.learned);
    }

    sessions_are : new.sessions ≡ reach.sessions
    sessions_are = ap (λ m. m.sessions) reach.now_is

    there_new : slice_get new.sessions at ≡ Some (with_plan plan t)
    there_new =
        ap (λ ss. slice_get ss at) sessions_are
        ∙ aims_there next.learned at (change_at at (with_plan plan) h.sessions) reach.sessions (with_plan plan t) (changed_there at (with_plan plan) h.sessions t there) idle reach.aims

    connections_are : map connection_of new.sessions ≡ map connection_of h.sessions
    connections_are =
        ap (map connection_of) sessions_are ∙ aims_connections next.learned (change_at at (with_plan plan) h.sessions) reach.sessions reach.aims
        ∙ map_changed connection_of at (with_plan plan) h.sessions t there refl

    apart_behind : AllApart (map connection_of (change_at at (λ _. t) new.sessions))
    apart_behind = subst AllApart (sym (map_changed connection_of at (λ _. t) new.sessions (with_plan plan t) there_new refl ∙ connections_are)) apart_now

    now_accepted : change_at at (accepted plan) new.sessions ≡ map (replaced (accepted plan t)) (change_at at (λ _. t) new.sessions)
    now_accepted =
        changed_same at (accepted plan) (λ _. accepted plan t) new.sessions (with_plan plan t) there_new refl
        ∙ sym (changed_twice at (λ _. accepted plan t) (λ _. t) new.sessions)
        ∙ sym (placed (accepted plan t) t at (change_at at (λ _. t) new.sessions) apart_behind (changed_there at (λ _. t) new.sessions (with_plan plan t) there_new) refl)

    traces_are : traces_in new.learned dpid ≡ traces_behind u dpid h
    traces_are =
        ap (λ m. traces_in m.learned dpid) reach.now_is ∙ kept_in (is_current (cell_in (applied h.scene u))) dpid (put_traces dpid (traces_in h.learned dpid) h.learned)
        ∙ ap (those (is_current (cell_in (applied h.scene u)))) (traces_same dpid h.learned dpid)

    pub joins : IsUpdate t rules plan → AreRulesOf (traces_behind u dpid h) rules → (ports : List Port) → u ≡ Switch dpid ports → Joins t dpid ports (unheard at h) (changed_at at (accepted plan) new)
    joins is_update are_rules ports e = record {
      reached = behind;
      reaches =
          subst (λ v. Reaches (unheard at h) (updated v (with_traces dpid (traces_of dpid (unheard at h)) (with_session t (unheard at h)))) behind) e
          (subst (λ w. Reaches (unheard at h) (updated u (with_traces dpid (traces_of dpid (unheard at h)) w)) behind) (sym restored) reaches_on);
      rules = rules;
      are_rules = subst (λ ts. AreRulesOf ts rules) (sym traces_are) are_rules;
      accepted = accepted plan t;
      accepts = record { update = plan; is_update = is_update; now_is = refl };
      now_is = ap (λ ss. record new { sessions = ss }) now_accepted;
    }

    pub replies_same : reached (with_list dpid (changed_at at (with_plan plan) h)) (updated u (with_list dpid (changed_at at (with_plan plan) h))) ≡ reached (unheard at h) (updated u (unheard at h))
    replies_same =
        let p = is_current (cell_in (applied h.scene u)) in
        ap (λ n. NewState (state_number next) n) (either_list dpid (λ ls. trace_total ls - trace_total (kept_of p ls) ≡ trace_total h.learned - trace_total (kept_of p h.learned)) h.learned refl (ap₂ ◌-◌ (length_more dpid h.learned) (total_more dpid p h.learned)))

  -- the state in which a start is prepared and the switch has a list of traces can reach another
  module _ (plan : Plan) (none_fit : AreFit h.settings.capacity []) where
    abbrev before : State
    before = with_list dpid (changed_at at (with_plan plan) h)

    current_on : (switch : ℕ) (r : Trace) → IsCurrent (unheard at h) switch r → IsCurrent before switch r
    current_on switch r c = record { key = c.key; run = c.run; cells = c.cells; begins = c.begins; ports = c.ports; number = c.number }

    learned_on : (l : Learnings) → AreLearned (unheard at h) l → AreLearned before l
    learned_on l a = record {
      current = all_from (IsCurrent (unheard at h) l.switch) (IsCurrent before l.switch) l.traces (current_on l.switch) a.current;
      apart = a.apart;
      fit = a.fit;
      levels = a.levels;
    }

    learned_none : AreLearned before (no_traces dpid)
    learned_none = record { current = tt; apart = tt; fit = none_fit; levels = omega (arith, sound.ranges.some_levels) }

    all_learned : AllByRecursion (AreLearned before) before.learned
    all_learned =
        let same = all_from (AreLearned (unheard at h)) (AreLearned before) h.learned learned_on sound.learned in
        either_list dpid (AllByRecursion (AreLearned before)) h.learned same (all_more (AreLearned before) h.learned (no_traces dpid) same learned_none)

    heading_on : (s : Session) → IsInOrder (unheard at h) s → is_live s ≡ true → IsHeading before s
    heading_on s o live =
        let r = o.live live in
        let traces = traces_same dpid h.learned (switch_of s) in
        record {
          right = record {
            rules = subst (λ ts. AreRulesOf ts (heading s)) (sym traces) r.rules;
            quiet = λ q. traces ∙ r.quiet q;
            number = r.number;
            known = r.known;
            listed = either_list dpid (λ ls. list_any (λ (l : Learnings). l.switch == switch_of s) ls ≡ true) h.learned r.listed (list_any-append (λ (l : Learnings). l.switch == switch_of s) h.learned (no_traces dpid ∷ []) ∙ ap (λ b. b || list_any (λ (l : Learnings). l.switch == switch_of s) (no_traces dpid ∷ [])) r.listed);
            capacity = r.capacity;
          };
          idle = o.idle;
        }

    pub can_reach : CanReach before
    can_reach = record {
      ranges = sound.ranges;
      learned = all_learned;
      sessions =
          all_changed (IsInOrder (unheard at h)) (λ (s : Session). is_live s ≡ true → IsHeading before s) at forgotten (with_plan plan) h.sessions t there heading_on
          (λ live. absurd (true≢false (sym live ∙ idle))) sound.sessions;
    }

  -- the switch's traces are fit
  pub traces_fit : AreFit h.settings.capacity [] → AreFit h.settings.capacity (traces_of dpid h)
  traces_fit none_fit =
      of_traces (AreFit h.settings.capacity) dpid h.learned none_fit
      (all_from (AreLearned (unheard at h)) (λ (l : Learnings). AreFit h.settings.capacity l.traces) h.learned (λ l a. a.fit) sound.learned)

-- ---- the steps of the code

module _ (at dpid : ℕ) (h : State) (j : IsJoining at dpid h) where
  pub levels_fit : levels_of (scratch (traces_of dpid h)) ≤ level_limit
  levels_fit =
      of_traces (λ ts. levels_of (scratch ts) ≤ level_limit) dpid h.learned (omega arith)
      (all_from (AreLearned (unheard at h)) (λ (l : Learnings). levels_of (scratch l.traces) ≤ level_limit) h.learned (λ l a. a.fit.levels) j.sound.learned)

  pub is_joining_list : RulesAreList → FewerAreFit → NoneAreFit → (u : Update) (rules : Rules) → AreRulesOf (traces_behind u dpid h) rules → IsList j.session.capacity rules
  is_joining_list are_list fewer none u rules are =
      let fit = traces_fit at dpid h j.session j.there j.second j.sound (none.fit h.settings.capacity) in
      subst (λ n. IsList n rules) (sym (same_capacity at dpid h j.session j.there j.second j.sound))
      (are_list h.settings.capacity (traces_behind u dpid h) rules (fewer h.settings.capacity (is_current (cell_in (applied h.scene u))) (traces_of dpid h) fit) are)

  pub may_reach : NoneAreFit → (plan : Plan) (h1 : State) → h1 ≡ changed_at at (with_plan plan) h → CanReach (with_list dpid h1)
  may_reach none plan h1 e = subst (λ n. CanReach (with_list dpid n)) (sym e) (can_reach at dpid h j.session j.there j.second j.sound plan (none.fit h.settings.capacity))

  pub same_unheard : (plan : Plan) → unheard at (changed_at at (with_plan plan) h) ≡ unheard at h
  same_unheard plan =
      ap (λ ss. record h { sessions = ss }) (changed_twice at forgotten (with_plan plan) h.sessions ∙ changed_same at (λ s. forgotten (with_plan plan s)) forgotten h.sessions j.session j.there refl)

  module _ (u : Update) (rules : Rules) (plan : Plan) (h1 h2 : State) (reply : Reply) (prepares : Prepares at rules plan h h1) (has : ReachesBy u (with_list dpid h1) reply h2) where
    on_plan : ReachesBy u (with_list dpid (changed_at at (with_plan plan) h)) reply h2
    on_plan = subst (λ n. ReachesBy u (with_list dpid n) reply h2) prepares.0 has

    pub has_start : HasStart at plan h2
    has_start = record {
      session = with_plan plan j.session;
      there = there_new at dpid h j.session j.there j.second j.sound u rules plan h2 on_plan.reaches;
      can = record { second = j.second; prepared = refl };
    }

    pub enters : AreRulesOf (traces_behind u dpid h) rules → (h3 : State) → h3 ≡ changed_at at (accepted plan) h2 → Enters at dpid u h reply h3
    enters are h3 e =
        λ t ports there is.
        let second : t.phase ≡ Second = ap (λ s. s.phase) (same_Some t j.session (sym there ∙ j.there)) ∙ j.second in (
          on_plan.reply_is ∙ replies_same at dpid h t there second j.sound u rules plan h2 on_plan.reaches,
          subst (Joins t dpid ports (unheard at h)) (sym e) (joins at dpid h t there second j.sound u rules plan h2 on_plan.reaches (prepares.1 t there) are ports is),
        )

  second_of : (t : Session) → slice_get h.sessions at ≡ Some t → t.phase ≡ Second
  second_of t there = ap (λ s. s.phase) (same_Some t j.session (sym there ∙ j.there)) ∙ j.second

  module _ (ports : List Port) (reply : Reply) (new : State) where
    pub twice : is_served dpid h ≡ true → EndsAt at (ends.Twice dpid) h reply new → Joined at dpid ports h reply new
    twice served ending =
        λ t there.
        let second = second_of t there in
        let closed = ending t there in
        inl (inl (sym (same_served at dpid h t there second j.sound dpid) ∙ served, closed.0, closed.1 ∙ same_closed at dpid h t there second j.sound (ends.Twice dpid)))

    module _ (few : length ports ≤ 1364) (free : is_served dpid h ≡ false) where
      pub full_up : IsWithinLimits h.scene → (r : UpdateRefused) → refusal_of h.scene (Switch dpid ports) ≡ Some r → EndsAt at ends.Full h reply new → Joined at dpid ports h reply new
      full_up limits r refused ending =
          λ t there.
          let second = second_of t there in
          let closed = ending t there in
          inl (inr (inl (sym (same_served at dpid h t there second j.sound dpid) ∙ free, full_refused h.scene dpid ports few limits r refused, closed.0, closed.1 ∙ same_closed at dpid h t there second j.sound ends.Full)))

      pub entered : refusal_of h.scene (Switch dpid ports) ≡ None → EntersOrLacks at dpid (Switch dpid ports) h reply new → Joined at dpid ports h reply new
      entered taken e =
          λ t there.
          let second = second_of t there in
          ⊎_elim
          (λ x. let both = x t ports there refl in inl (inr (inr (sym (same_served at dpid h t there second j.sound dpid) ∙ free, room_accepted h.scene dpid ports few taken, both.0, both.1))))
          (λ lacks. inr lacks)
          e

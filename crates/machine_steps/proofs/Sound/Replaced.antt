-- States in which one session is another.
use Rattle.std.proofs.Common.{◌≡◌, ◌≢◌, ◌⊎◌, ℕ, ◌+◌, ◌<◌, ◌≤◌, Bool, true, false, List, [], ◌∷◌, ◌++◌, length, refl, sym, ap, ◌∙◌, subst, subst₂, inl, inr, le_refl, arith}
use Rattle.std.specs.Prelude.{◌==◌, ◌&&◌, not, filter, find, Some, None}
use Rattle.std.specs.List.{AllByRecursion, AllPairs, AllZip, list_any}
use Rattle.std.specs.FinSet as set
use Rattle.std.specs.Ordering.{nat_cmp, eq_by_cmp}
use Rattle.std.specs.Cmp.{nat_cmp_total, eq_by_cmp_equiv}
use Rattle.std.proofs.lemmas.Bool.{and_parts, or_left, or_right, not-true, eqb-false, ne_eqb}
use Rattle.std.proofs.lemmas.List.{length_push}
use Rattle.std.proofs.lemmas.List.Elements.{filter-append}
use Rattle.env_cells.specs.Environment.{knows}
use Rattle.report_text.specs.declared.line.Line.{Line}
use Rattle.switch_session.specs.declared.told.End.{End}
use Rattle.switch_session.specs.declared.told.Phase.{Phase}
use Rattle.switch_session.specs.declared.told.Phase.TheVariants as phases
use Rattle.switch_session.specs.Calls.{opened, is_live as is_live_phase}
use Rattle.switch_session.specs.Sessions.{breaks_off}
use Rattle.trace_tree.specs.declared.node.Trace.{Trace}
use Rattle.switch_traces.specs.Traces.{Learnings}
use Rattle.switch_traces.specs.Lists.{AreRulesOf}
use Rattle.update_plan.proofs.Members.{pairs_filter}
use Rattle.machine_steps.specs.declared.job.Job.{Job}
use Rattle.machine_steps.specs.Machine.{Session, State, most_sessions, has_ended, is_live, is_open, is_of, was_opened, open_count, with_session, without_session, with_traces, traces_in, traces_of}
use Rattle.machine_steps.specs.Steps.{switch_of, closes}
use Rattle.machine_steps.specs.Sound.{AreInRange, AreLearned, HeadsRight, IsInOrder, AreOthers, IsServed, BeginAtPorts, IsSound}
use Rattle.machine_steps.proofs.Sound.Zipped.{pairs_to, pairs_from, pairs_push, all_weaker, all_push, all_filter, all_passing, few_filter, few_among, all_others, find_all, find_append, find_among, zip_all, zip_few, zip_pairs, zip_refl, zip_weaker, zip_with}
use Rattle.machine_steps.proofs.Sound.Alike.{IsUnder, IsAlike, learned_under, order_alike, heads_alike, early_alike}
use Rattle.machine_steps.proofs.Sound.Following.{Stays, Serves, Put, Follow, stays_same, stays_in_phase, same_switch, serves_same, serves_still, others_turn, put_zip, sound_following}
use Rattle.machine_steps.proofs.Sound.Kept.{LowerLaws, traces_put, traces_beside, listed_put, listed_still, all_put, pairs_put, learned_nil}
use Rattle.machine_steps.proofs.Sound.Moves.{breaks_so}

-- ---- what else stands in the state is the same

pub record IsBeside (m n : State) : Type 0 where
  pub settings : n.settings ≡ m.settings
  pub policy : n.policy ≡ m.policy
  pub scene : n.scene ≡ m.scene
  pub learned : n.learned ≡ m.learned
  pub opened : (c : ℕ) → was_opened c m ≡ true → was_opened c n ≡ true
  pub count : m.trace_count ≤ n.trace_count
  pub job_count : m.job_count ≤ n.job_count

pub under_beside : (m n : State) → IsBeside m n → IsUnder m n
under_beside m n b = record { settings = b.settings; policy = b.policy; count = b.count }

pub alike_beside : (m n : State) → IsBeside m n → (s : Session) → IsAlike m n s
alike_beside m n b s = record {
  settings = b.settings;
  scene = b.scene;
  traces = ap (λ ls. traces_in ls (switch_of s)) b.learned;
  listed = λ h. ap (λ ls. list_any (λ (l : Learnings). l.switch == switch_of s) ls) b.learned ∙ h;
  opened = b.opened s.connection;
}

pub learned_beside : (m n : State) → IsBeside m n → AllByRecursion (AreLearned m) m.learned → AllByRecursion (AreLearned n) n.learned
learned_beside m n b h = subst (AllByRecursion (AreLearned n)) (sym b.learned) (all_weaker (AreLearned m) (AreLearned n) (learned_under m n (under_beside m n b) b.scene) m.learned h)

pub lists_beside : (m n : State) → IsBeside m n → AllPairs (λ (k l : Learnings). k.switch ≢ l.switch) m.learned → AllPairs (λ (k l : Learnings). k.switch ≢ l.switch) n.learned
lists_beside m n b h = subst (AllPairs (λ (k l : Learnings). k.switch ≢ l.switch)) (sym b.learned) h

pub switches_beside : (m n : State) → IsBeside m n → AllByRecursion (λ (l : Learnings). knows m.scene l.switch ≡ true) m.learned → AllByRecursion (λ (l : Learnings). knows n.scene l.switch ≡ true) n.learned
switches_beside m n b h = subst₂ (λ e ls. AllByRecursion (λ (l : Learnings). knows e l.switch ≡ true) ls) (sym b.scene) (sym b.learned) h

pub order_beside : (m n : State) → IsBeside m n → (s : Session) → IsInOrder m s → IsInOrder n s
order_beside m n b s o = order_alike m n s (alike_beside m n b s) o

-- a state beside a sound one, whose sessions follow, is sound
pub sound_beside : (m n : State) → IsSound m → IsBeside m n → Follow m n → n.jobs ≡ m.jobs → IsSound n
sound_beside m n h b follow jobs =
    sound_following m n h (subst AreInRange (sym b.settings) h.ranges) (learned_beside m n b h.learned) (lists_beside m n b h.lists) (switches_beside m n b h.switches) (subst BeginAtPorts (sym b.scene) h.links) follow jobs b.job_count

-- the sessions are the same
pub follow_same : (m n : State) → IsSound m → IsBeside m n → n.sessions ≡ m.sessions → Follow m n
follow_same m n h b same =
    subst (AllZip (λ x y. Stays x y × IsInOrder n y) m.sessions) (sym same)
    (zip_weaker (λ x y. IsInOrder m x × (y ≡ x)) (λ x y. Stays x y × IsInOrder n y) (λ x y o. subst (λ z. Stays x z × IsInOrder n z) (sym o.1) (stays_same x, order_beside m n b x o.0)) m.sessions m.sessions
    (zip_with (IsInOrder m) (λ x y. y ≡ x) m.sessions m.sessions h.sessions (zip_refl (λ x y. y ≡ x) (λ x. refl) m.sessions)))

-- ---- lines

module _ (m : State) (told : List Line) where
  abbrev telling : State
  telling = record m { lines = told }

  telling_beside : IsBeside m telling
  telling_beside = record { settings = refl; policy = refl; scene = refl; learned = refl; opened = λ c o. o; count = le_refl m.trace_count; job_count = le_refl m.job_count }

  -- the report is no part of what is sound
  pub sound_told : IsSound m → IsSound telling
  sound_told h = sound_beside m telling h telling_beside (follow_same m telling h telling_beside refl) refl

-- ---- jobs that are closed

module _ (m : State) (p : Job → Bool) (told : List Line) where
  abbrev fewer : State
  fewer = record m { jobs = filter p m.jobs; lines = told }

  fewer_beside : IsBeside m fewer
  fewer_beside = record { settings = refl; policy = refl; scene = refl; learned = refl; opened = λ c o. o; count = le_refl m.trace_count; job_count = le_refl m.job_count }

  served_fewer : (j : Job) → IsServed m j → IsServed fewer j
  served_fewer j v = serves_still m fewer (le_refl m.job_count) j (zip_refl (Serves j.connection) (serves_same j.connection) m.sessions) v

  -- nothing else changes but the report
  pub sound_fewer : IsSound m → IsSound fewer
  sound_fewer h = record {
    ranges = h.ranges;
    learned = learned_beside m fewer fewer_beside h.learned;
    lists = h.lists;
    switches = h.switches;
    links = h.links;
    sessions = all_weaker (IsInOrder m) (IsInOrder fewer) (order_beside m fewer fewer_beside) m.sessions h.sessions;
    others = h.others;
    few_sessions = h.few_sessions;
    jobs = all_filter (IsServed fewer) p m.jobs (all_weaker (IsServed m) (IsServed fewer) served_fewer m.jobs h.jobs);
    numbers = pairs_filter (λ (i j : Job). i.number ≢ j.number) p m.jobs h.numbers;
    few_jobs = let a = few_filter p m.jobs in let b = h.few_jobs in omega (arith, a, b);
  }

-- ---- one session

-- the session that is found is another now
pub follow_with : (m n : State) (p : Session → Bool) (s t : Session) → IsSound m → find p m.sessions ≡ Some s → Stays s t → ((x : Session) → AreOthers x s → IsInOrder m x → IsInOrder n x) → IsInOrder n t
    → n.sessions ≡ (with_session t m).sessions → Follow m n
follow_with m n p s t h found stays others order are =
    subst (AllZip (λ x y. Stays x y × IsInOrder n y) m.sessions) (sym are)
    (zip_weaker (λ x y. IsInOrder m x × Put s t x y) (λ x y. Stays x y × IsInOrder n y) one m.sessions (with_session t m).sessions
    (zip_with (IsInOrder m) (Put s t) m.sessions (with_session t m).sessions h.sessions (put_zip p m.sessions s t stays.connection h.others found)))
  where
    one : (x y : Session) → IsInOrder m x × Put s t x y → Stays x y × IsInOrder n y
    one x y (o, inl e) = subst₂ (λ a b. Stays a b × IsInOrder n b) (sym e.0) (sym e.1) (stays, order)
    one x y (o, inr e) = subst (λ b. Stays x b × IsInOrder n b) (sym e.1) (stays_same x, others x e.0 o)

module _ (m : State) (p : Session → Bool) (s t : Session) (told : List Line) where
  abbrev exchanged : State
  exchanged = record (with_session t m) { lines = told }

  exchanged_beside : IsBeside m exchanged
  exchanged_beside = record { settings = refl; policy = refl; scene = refl; learned = refl; opened = λ c o. o; count = le_refl m.trace_count; job_count = le_refl m.job_count }

  -- and nothing else changes but the report
  pub sound_with : IsSound m → find p m.sessions ≡ Some s → Stays s t → (IsInOrder m s → IsInOrder m t) → IsSound exchanged
  sound_with h found stays order =
      sound_beside m exchanged h exchanged_beside
      (follow_with m exchanged p s t h found stays (λ x o a. order_beside m exchanged exchanged_beside x a) (order_beside m exchanged exchanged_beside t (order (find_all (IsInOrder m) p m.sessions s h.sessions found))) refl) refl

-- ---- an end

-- a session that is closed
pub record IsClosed (s t : Session) : Type 0 where
  pub connection : t.connection ≡ s.connection
  pub shut : is_open t ≡ false
  pub idle : t.prepared ≡ None

-- an ended session isn't live
ended_dead : (phase : Phase) → not (has_ended phase) ≡ false → is_live_phase phase ≡ true → ⊥
ended_dead phases.First shut l = cc
ended_dead phases.Second shut l = cc
ended_dead phases.Live shut l = cc
ended_dead phases.Ended shut l = cc

module _ (m : State) (p : Session → Bool) (s t : Session) (end : End) (told : List Line) where
  abbrev closed_now : State
  closed_now = record (closes t end m) { lines = told }

  abbrev of_another : Job → Bool
  of_another j = not (j.connection == t.connection)

  closed_beside : IsBeside m closed_now
  closed_beside = record { settings = refl; policy = refl; scene = refl; learned = refl; opened = λ c o. o; count = le_refl m.trace_count; job_count = le_refl m.job_count }

  module _ (h : IsSound m) (found : find p m.sessions ≡ Some s) (closed : IsClosed s t) where
    closed_zip : AllZip (Put s t) m.sessions closed_now.sessions
    closed_zip = put_zip p m.sessions s t closed.connection h.others found

    closed_order : (x y : Session) → Put s t x y → IsInOrder m x → IsInOrder closed_now y
    closed_order x y (inl e) o = subst (IsInOrder closed_now) (sym e.1)
        (record {
          live = λ l. absurd (ended_dead t.phase closed.shut l);
          early = λ a b. (let f = closed.shut in absurd (cc));
          idle = closed.idle;
          opened = ap (λ c. was_opened c m) closed.connection ∙ (find_all (IsInOrder m) p m.sessions s h.sessions found).opened;
        })
    closed_order x y (inr e) o = subst (IsInOrder closed_now) (sym e.1) (order_beside m closed_now closed_beside x o)

    closed_opens : (x y : Session) → Put s t x y → is_open y ≡ true → is_open x ≡ true
    closed_opens x y (inl e) o = let f = sym (ap is_open e.1) ∙ o in let g = closed.shut in absurd (cc)
    closed_opens x y (inr e) o = sym (ap is_open e.1) ∙ o

    closed_others : (x y z w : Session) → Put s t x y → Put s t z w → AreOthers x z → AreOthers y w
    closed_others x y z w (inl e) (inl f) o = absurd (o.connections (ap (λ (u : Session). u.connection) (e.0 ∙ sym f.0)))
    closed_others x y z w (inl e) (inr f) o =
        subst₂ AreOthers (sym e.1) (sym f.1) (record { connections = λ g. f.0.connections (sym g ∙ closed.connection); switches = λ l k g. absurd (ended_dead t.phase closed.shut l) })
    closed_others x y z w (inr e) (inl f) o =
        subst₂ AreOthers (sym e.1) (sym f.1) (record { connections = λ g. e.0.connections (g ∙ closed.connection); switches = λ l k g. absurd (ended_dead t.phase closed.shut k) })
    closed_others x y z w (inr e) (inr f) o = subst₂ AreOthers (sym e.1) (sym f.1) o

    -- a job of another connection
    closed_serves : (c : ℕ) → not (c == t.connection) ≡ true → (x y : Session) → Put s t x y → Serves c x y
    closed_serves c other x y (inl e) =
        let apart = eqb-false c t.connection (not-true (c == t.connection) other) in
        let now : is_of c t ≡ false = ap (λ b. b && is_open t) (ne_eqb t.connection c (λ g. apart (sym g))) in
        let then : is_of c s ≡ false = ap (λ b. b && is_open s) (ne_eqb s.connection c (λ g. apart (sym g ∙ sym closed.connection))) in
        subst₂ (Serves c) (sym e.0) (sym e.1) (record { of = now ∙ sym then; live_too = λ o l. absurd (cc); switch = λ o l. absurd (cc) })
    closed_serves c other x y (inr e) = subst (Serves c x) (sym e.1) (serves_same c x)

    closed_served : (j : Job) → IsServed m j → of_another j ≡ true → IsServed closed_now j
    closed_served j v other = serves_still m closed_now (le_refl m.job_count) j (zip_weaker (Put s t) (Serves j.connection) (closed_serves j.connection other) m.sessions closed_now.sessions closed_zip) v

    -- an end, with the jobs of its connection
    pub sound_closed : IsSound closed_now
    sound_closed = record {
      ranges = h.ranges;
      learned = learned_beside m closed_now closed_beside h.learned;
      lists = h.lists;
      switches = h.switches;
      links = h.links;
      sessions = zip_all (Put s t) (IsInOrder m) (IsInOrder closed_now) closed_order m.sessions closed_now.sessions closed_zip h.sessions;
      others = pairs_from AreOthers closed_now.sessions (zip_pairs (Put s t) AreOthers AreOthers closed_others m.sessions closed_now.sessions closed_zip (pairs_to AreOthers m.sessions h.others));
      few_sessions = let a = zip_few (Put s t) is_open closed_opens m.sessions closed_now.sessions closed_zip in let b = h.few_sessions in omega (arith, a, b);
      jobs = all_passing (IsServed closed_now) of_another m.jobs (all_weaker (IsServed m) (λ j. of_another j ≡ true → IsServed closed_now j) closed_served m.jobs h.jobs);
      numbers = pairs_filter (λ (i j : Job). i.number ≢ j.number) of_another m.jobs h.numbers;
      few_jobs = let a = few_filter of_another m.jobs in let b = h.few_jobs in omega (arith, a, b);
    }

-- ---- a session that is opened

module _ (m : State) (c : ℕ) (told : List Line) where
  -- the number of a connection that was opened
  opened_now : set.contains (set.insert m.opened c) c ≡ true
  opened_now = set.contains-insert nat_cmp_total m.opened c c ∙ or_left (eq_by_cmp nat_cmp c c) (set.contains m.opened c) ((eq_by_cmp_equiv nat_cmp_total).refl c)

  opened_still : (d : ℕ) → was_opened d m ≡ true → set.contains (set.insert m.opened c) d ≡ true
  opened_still d o = set.contains-insert nat_cmp_total m.opened c d ∙ or_right (eq_by_cmp nat_cmp d c) (set.contains m.opened d) o

  abbrev fuller : State
  fuller = record m { opened = set.insert m.opened c; lines = told }

  fuller_beside : IsBeside m fuller
  fuller_beside = record { settings = refl; policy = refl; scene = refl; learned = refl; opened = opened_still; count = le_refl m.trace_count; job_count = le_refl m.job_count }

  -- where as many sessions are open as may be, none is opened
  pub sound_full : IsSound m → IsSound fuller
  sound_full h = sound_beside m fuller h fuller_beside (follow_same m fuller h fuller_beside refl) refl

  abbrev fresh : Session
  fresh = opened c m.settings.capacity

  abbrev longer : State
  longer = record m { opened = set.insert m.opened c; sessions = m.sessions ++ fresh ∷ []; lines = told }

  longer_beside : IsBeside m longer
  longer_beside = record { settings = refl; policy = refl; scene = refl; learned = refl; opened = opened_still; count = le_refl m.trace_count; job_count = le_refl m.job_count }

  order_fresh : IsInOrder longer fresh
  order_fresh = record {
    live = λ l. absurd (cc);
    early = λ a b. record { capacity = refl; ready = refl; under_way = refl; quiet = refl; target = refl; next = refl; number = refl };
    idle = refl;
    opened = opened_now;
  }

  apart_fresh : was_opened c m ≡ false → (x : Session) → IsInOrder m x → AreOthers x fresh
  apart_fresh new x o = record { connections = λ e. (let f = ap (λ d. was_opened d m) (sym e) ∙ o.opened in cc); switches = λ l k. absurd (cc) }

  one_more : open_count longer ≡ open_count m + 1
  one_more = ap length (filter-append is_open m.sessions (fresh ∷ [])) ∙ length_push (filter is_open m.sessions) fresh

  served_still : (j : Job) → IsServed m j → IsServed longer j
  served_still j v = record {
    session = v.session;
    there = find_append (is_of j.connection) m.sessions (fresh ∷ []) v.session v.there;
    live = v.live;
    switch = v.switch;
    valid = v.valid;
    number = v.number;
    frame = v.frame;
  }

  pub sound_opened : IsSound m → was_opened c m ≡ false → open_count m < most_sessions → IsSound longer
  sound_opened h new few = record {
    ranges = h.ranges;
    learned = learned_beside m longer longer_beside h.learned;
    lists = h.lists;
    switches = h.switches;
    links = h.links;
    sessions = all_push (IsInOrder longer) m.sessions fresh (all_weaker (IsInOrder m) (IsInOrder longer) (order_beside m longer longer_beside) m.sessions h.sessions) order_fresh;
    others = pairs_from AreOthers longer.sessions (pairs_push AreOthers m.sessions fresh (pairs_to AreOthers m.sessions h.others) (all_weaker (IsInOrder m) (λ x. AreOthers x fresh) (apart_fresh new) m.sessions h.sessions));
    few_sessions = let e = one_more in omega (arith, e, few);
    jobs = all_weaker (IsServed m) (IsServed longer) served_still m.jobs h.jobs;
    numbers = h.numbers;
    few_jobs = h.few_jobs;
  }

-- ---- an ended session that goes

module _ (m : State) (p : Session → Bool) (s : Session) (c : ℕ) where
  abbrev shorter : State
  shorter = without_session c m

  abbrev beside_it : Session → Bool
  beside_it x = not (x.connection == c)

  shorter_beside : IsBeside m shorter
  shorter_beside = record { settings = refl; policy = refl; scene = refl; learned = refl; opened = λ d o. o; count = le_refl m.trace_count; job_count = le_refl m.job_count }

  module _ (h : IsSound m) (found : find p m.sessions ≡ Some s) (is : s.connection ≡ c) (shut : is_open s ≡ false) where
    open_stay : (d : ℕ) (x : Session) → (x ≡ s) ⊎ AreOthers x s → is_of d x ≡ true → beside_it x ≡ true
    open_stay d x (inl e) o = let f = sym (ap is_open e) ∙ (and_parts (x.connection == d) (is_open x) o).1 in absurd (cc)
    open_stay d x (inr a) o = ap not (ne_eqb x.connection c (λ e. a.connections (e ∙ sym is)))

    served_shorter : (j : Job) → IsServed m j → IsServed shorter j
    served_shorter j v = record {
      session = v.session;
      there = find_among (is_of j.connection) beside_it m.sessions
          (all_weaker (λ x. (x ≡ s) ⊎ AreOthers x s) (λ x. is_of j.connection x ≡ true → beside_it x ≡ true) (open_stay j.connection) m.sessions (all_others AreOthers others_turn p m.sessions s (pairs_to AreOthers m.sessions h.others) found))
          ∙ v.there;
      live = v.live;
      switch = v.switch;
      valid = v.valid;
      number = v.number;
      frame = v.frame;
    }

    pub sound_gone : IsSound shorter
    sound_gone = record {
      ranges = h.ranges;
      learned = learned_beside m shorter shorter_beside h.learned;
      lists = h.lists;
      switches = h.switches;
      links = h.links;
      sessions = all_filter (IsInOrder shorter) beside_it m.sessions (all_weaker (IsInOrder m) (IsInOrder shorter) (order_beside m shorter shorter_beside) m.sessions h.sessions);
      others = pairs_filter AreOthers beside_it m.sessions h.others;
      few_sessions = let a = few_among is_open beside_it m.sessions in let b = h.few_sessions in omega (arith, a, b);
      jobs = all_weaker (IsServed m) (IsServed shorter) served_shorter m.jobs h.jobs;
      numbers = h.numbers;
      few_jobs = h.few_jobs;
    }

-- ---- a live session's switch has other traces

module _ (m : State) (p : Session → Bool) (s t : Session) (traces : List Trace) (count : ℕ) (told : List Line) where
  abbrev its : ℕ
  its = switch_of t

  abbrev pub retraced : State
  retraced = record (with_traces its traces (with_session t m)) { trace_count = count; lines = told }

  pub traces_now : traces_of its retraced ≡ traces
  traces_now = traces_put its traces m.learned

  order_elsewhere : is_live s ≡ true → its ≡ switch_of s → (x : Session) → AreOthers x s → IsInOrder m x → IsInOrder retraced x
  order_elsewhere l same x o a = record {
    live = λ k. heads_alike m retraced x
        (record {
          settings = refl;
          scene = refl;
          traces = traces_beside its traces (switch_of x) (λ e. o.switches k l (e ∙ same)) m.learned;
          listed = listed_still its traces (switch_of x) m.learned;
          opened = λ q. q;
        }) (a.live k);
    early = λ k e. early_alike m retraced x refl (a.early k e);
    idle = a.idle;
    opened = a.opened;
  }

  pub order_retraced : is_live s ≡ true → Stays s t → HeadsRight retraced t → t.prepared ≡ None → IsInOrder m s → IsInOrder retraced t
  order_retraced l stays heads idle o = record {
    live = λ k. heads;
    early = λ k e. (let g = stays.live_too in absurd (cc));
    idle = idle;
    opened = ap (λ c. was_opened c m) stays.connection ∙ o.opened;
  }

  -- the session heads for their rules
  pub sound_retraced : IsSound m → find p m.sessions ≡ Some s → is_live s ≡ true → Stays s t → m.trace_count ≤ count → AreLearned retraced (record { switch = its; traces = traces }) → HeadsRight retraced t → t.prepared ≡ None
      → IsSound retraced
  sound_retraced h found l stays more learned heads idle =
      let o = find_all (IsInOrder m) p m.sessions s h.sessions found in
      sound_following m retraced h h.ranges
      (all_put its traces (AreLearned retraced) learned m.learned
      (all_weaker (AreLearned m) (AreLearned retraced) (learned_under m retraced (record { settings = refl; policy = refl; count = more }) refl) m.learned h.learned))
      (pairs_from (λ (k l : Learnings). k.switch ≢ l.switch) retraced.learned (pairs_put its traces m.learned (pairs_to (λ (k l : Learnings). k.switch ≢ l.switch) m.learned h.lists)))
      (all_put its traces (λ (l : Learnings). knows m.scene l.switch ≡ true) heads.known m.learned h.switches)
      h.links
      (follow_with m retraced p s t h found stays (order_elsewhere l (same_switch s t stays.dpid)) (order_retraced l stays heads idle o) refl) refl (le_refl m.job_count)

-- ---- the first error of a batch

module _ (laws : LowerLaws) (m : State) (p : Session → Bool) (s : Session) (told : List Line) where
  abbrev broken : Session
  broken = breaks_off s

  abbrev quieter : State
  quieter = retraced m p s broken [] m.trace_count told

  pub sound_quiet : IsSound m → find p m.sessions ≡ Some s → is_live s ≡ true → IsSound quieter
  sound_quiet h found l =
      let b = breaks_so s in
      let was = (find_all (IsInOrder m) p m.sessions s h.sessions found).live l in
      let same = same_switch s broken b.dpid in
      let none = traces_now m p s broken [] m.trace_count told in
      sound_retraced m p s broken [] m.trace_count told h found l (stays_in_phase s broken b.connection b.phase b.dpid) (le_refl m.trace_count) (learned_nil laws.nil quieter (switch_of broken))
      (record {
        rules = subst₂ AreRulesOf (sym none) (sym b.heading) laws.nil.rules;
        quiet = λ q. none;
        number = b.dpid ∙ was.number ∙ ap Some (sym same);
        known = ap (knows m.scene) same ∙ was.known;
        listed = listed_put (switch_of broken) [] m.learned;
        capacity = b.capacity ∙ was.capacity;
      }) b.idle

-- Sessions that change place by place.
use Rattle.std.proofs.Common.{◌≡◌, ◌≢◌, ◌⊎◌, ℕ, ◌≤◌, Bool, true, List, refl, sym, ap, ap₂, ◌∙◌, subst, inl, inr, arith}
use Rattle.std.specs.Prelude.{◌==◌, ◌&&◌, map, find, not, if◌then◌else◌, Some, unwrap_or, length}
use Rattle.std.specs.List.{AllByRecursion, AllPairs, AllZip}
use Rattle.std.proofs.lemmas.Bool.{eq-eqb, ne_eqb}
use Rattle.env_cells.specs.Environment.{knows}
use Rattle.switch_session.specs.Calls.{is_live as is_live_phase}
use Rattle.switch_traces.specs.Traces.{Learnings}
use Rattle.machine_steps.specs.declared.job.Job.{Job}
use Rattle.machine_steps.specs.Machine.{Session, State, most_jobs, has_ended, is_live, is_open, is_of}
use Rattle.machine_steps.specs.Steps.{switch_of}
use Rattle.machine_steps.specs.Sound.{AreInRange, AreLearned, IsInOrder, AreOthers, IsServed, BeginAtPorts, IsSound}
use Rattle.machine_steps.proofs.Sound.Zipped.{pairs_to, pairs_from, all_weaker, all_others, zip_all, zip_map, zip_pairs, zip_few, zip_find, find_passes, zip_weaker}

-- a session stays of its connection and its switch, open or not, live or not
pub record Stays (s t : Session) : Type 0 where
  pub connection : t.connection ≡ s.connection
  pub open_too : is_open t ≡ is_open s
  pub live_too : is_live t ≡ is_live s
  pub dpid : t.dpid ≡ s.dpid

pub stays_same : (s : Session) → Stays s s
stays_same s = record { connection = refl; open_too = refl; live_too = refl; dpid = refl }

pub stays_in_phase : (s t : Session) → t.connection ≡ s.connection → t.phase ≡ s.phase → t.dpid ≡ s.dpid → Stays s t
stays_in_phase s t c p d = record { connection = c; open_too = ap (λ q. not (has_ended q)) p; live_too = ap is_live_phase p; dpid = d }

pub same_switch : (s t : Session) → t.dpid ≡ s.dpid → switch_of t ≡ switch_of s
same_switch s t d = ap (λ n. unwrap_or n 0) d

-- ---- jobs

-- at this connection the second session is open where the first was, and live and of its switch where the first was
pub record Serves (c : ℕ) (s t : Session) : Type 0 where
  pub of : is_of c t ≡ is_of c s
  pub live_too : is_of c s ≡ true → is_live s ≡ true → is_live t ≡ true
  pub switch : is_of c s ≡ true → is_live s ≡ true → switch_of t ≡ switch_of s

pub serves_same : (c : ℕ) (s : Session) → Serves c s s
serves_same c s = record { of = refl; live_too = λ o l. l; switch = λ o l. refl }

pub stays_serves : (c : ℕ) (s t : Session) → Stays s t → Serves c s t
stays_serves c s t stays = record {
  of = ap₂ (λ d o. d == c && o) stays.connection stays.open_too;
  live_too = λ o l. stays.live_too ∙ l;
  switch = λ o l. same_switch s t stays.dpid;
}

pub serves_still : (m n : State) → m.job_count ≤ n.job_count → (j : Job) → AllZip (Serves j.connection) m.sessions n.sessions → IsServed m j → IsServed n j
serves_still m n few j zip h =
    let t = zip_find (Serves j.connection) (is_of j.connection) (λ x y s. s.of) m.sessions n.sessions h.session zip h.there in
    let passes = find_passes (is_of j.connection) m.sessions h.session h.there in
    record {
      session = t.0;
      there = t.1;
      live = t.2.live_too passes h.live;
      switch = h.switch ∙ sym (t.2.switch passes h.live);
      valid = h.valid;
      number = let a = h.number in omega (arith, a, few);
      frame = h.frame;
    }

-- ---- one session is replaced

pub others_turn : (s t : Session) → AreOthers s t → AreOthers t s
others_turn s t o = record { connections = λ e. o.connections (sym e); switches = λ a b e. o.switches b a (sym e) }

-- the session s is t now, and any other stays
abbrev pub Put : Session → Session → Session → Session → Type 0
Put s t x y = ((x ≡ s) × (y ≡ t)) ⊎ (AreOthers x s × (y ≡ x))

pub put_zip : (p : Session → Bool) (xs : List Session) (s t : Session) → t.connection ≡ s.connection → AllPairs AreOthers xs → find p xs ≡ Some s
    → AllZip (Put s t) xs (map (λ (x : Session). if x.connection == t.connection then t else x) xs)
put_zip p xs s t same others found =
    zip_map (Put s t) (λ (x : Session). if x.connection == t.connection then t else x) xs
    (all_weaker (λ x. (x ≡ s) ⊎ AreOthers x s) (λ x. Put s t x (if x.connection == t.connection then t else x)) one xs (all_others AreOthers others_turn p xs s (pairs_to AreOthers xs others) found))
  where
    one : (x : Session) → (x ≡ s) ⊎ AreOthers x s → Put s t x (if x.connection == t.connection then t else x)
    one x (inl e) = inl (e, ap (λ b. if b then t else x) (eq-eqb x.connection t.connection (ap (λ (y : Session). y.connection) e ∙ sym same)))
    one x (inr o) = inr (o, ap (λ b. if b then t else x) (ne_eqb x.connection t.connection (λ e. o.connections (e ∙ same))))

-- ---- all stay

-- the sessions of the second state are in order, each of the place of one of the first
abbrev pub Follow : State → State → Type 0
Follow m n = AllZip (λ s t. Stays s t × IsInOrder n t) m.sessions n.sessions

pub stays_others : (s t u v : Session) → Stays s t → Stays u v → AreOthers s u → AreOthers t v
stays_others s t u v a b o = record {
  connections = λ e. o.connections (sym a.connection ∙ e ∙ b.connection);
  switches = λ l k e. o.switches (sym a.live_too ∙ l) (sym b.live_too ∙ k) (sym (same_switch s t a.dpid) ∙ e ∙ same_switch u v b.dpid);
}

pub sound_following : (m n : State) → IsSound m → AreInRange n.settings → AllByRecursion (AreLearned n) n.learned → AllPairs (λ (k l : Learnings). k.switch ≢ l.switch) n.learned
    → AllByRecursion (λ (l : Learnings). knows n.scene l.switch ≡ true) n.learned → BeginAtPorts n.scene → Follow m n → n.jobs ≡ m.jobs → m.job_count ≤ n.job_count → IsSound n
sound_following m n h ranges learned lists switches links follow jobs few = record {
  ranges = ranges;
  learned = learned;
  lists = lists;
  switches = switches;
  links = links;
  sessions = zip_all (λ s t. Stays s t × IsInOrder n t) (IsInOrder m) (IsInOrder n) (λ s t f o. f.1) m.sessions n.sessions follow h.sessions;
  others = pairs_from AreOthers n.sessions
      (zip_pairs (λ s t. Stays s t × IsInOrder n t) AreOthers AreOthers (λ s t u v a b o. stays_others s t u v a.0 b.0 o) m.sessions n.sessions follow (pairs_to AreOthers m.sessions h.others));
  few_sessions = let a = zip_few (λ s t. Stays s t × IsInOrder n t) is_open (λ s t f o. sym f.0.open_too ∙ o) m.sessions n.sessions follow in let b = h.few_sessions in omega (arith, a, b);
  jobs = subst (AllByRecursion (IsServed n)) (sym jobs)
      (all_weaker (IsServed m) (IsServed n) (λ j s. serves_still m n few j (zip_weaker (λ s t. Stays s t × IsInOrder n t) (Serves j.connection) (λ s t f. stays_serves j.connection s t f.0) m.sessions n.sessions follow) s) m.jobs h.jobs);
  numbers = subst (AllPairs (λ (i j : Job). i.number ≢ j.number)) (sym jobs) h.numbers;
  few_jobs = subst (λ js. length js ≤ most_jobs) (sym jobs) h.few_jobs;
}

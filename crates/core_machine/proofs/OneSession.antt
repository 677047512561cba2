-- One session is changed where it stands among the connections.
use Rattle.std.proofs.Common.{◌≡◌, ℕ, zero, suc, ◌+◌, ◌<◌, ◌≤◌, true, cond, not, List, [], ◌∷◌, ◌++◌, length, map, get_or, set, Some, Result, Ok, Err, IfOk, OnErr, None, sym, ap, ◌∙◌, refl, subst, arith}
use Rattle.std.specs.Prelude.{◌==◌, filter, vec_len, vec_capacity}
use Rattle.std.specs.Vec.{with_item}
use Rattle.std.specs.List.{AllByRecursion, slice_get}
use Rattle.std.specs.Option.{option_map}
use Rattle.std.proofs.lemmas.List.{length-map}
use Rattle.std.proofs.lemmas.Option.{slice_get-get_or, slice_get-map, same_Some}
use Rattle.maple_base.specs.declared.no_memory.NoMemory.{NoMemory}
use Rattle.maple_base.specs.RuleLists.{Rules}
use Rattle.report_text.specs.declared.line.Line.{Line}
use Rattle.report_text.specs.declared.line.Line.TheVariants as lines
use Rattle.switch_session.specs.declared.told.End.{End}
use Rattle.switch_session.specs.declared.told.Phase.TheVariants.{Second}
use Rattle.switch_session.specs.Parts.{Update as Plan}
use Rattle.switch_session.specs.Sessions.{accepted, ended}
use Rattle.switch_session.specs.Calls.{IsUpdate}
use Rattle.machine_parts.specs.declared.connection.Connection.{Connection}
use Rattle.machine_parts.specs.declared.parts.Parts.TheInside.{Inside}
use Rattle.machine_steps.specs.Machine.{Session, State, has_ended, is_open}
use Rattle.machine_steps.specs.declared.job.Job.{Job}
use Rattle.machine_steps.specs.Steps.{why_of}
use Rattle.machine_parts.specs.Seen.{seen, IsRoomy}
use Rattle.machine_parts.specs.Sessions.{session_of, due, due_all}
use Rattle.core_machine.specs.Joining.{change_at, changed_at, closes_at, with_plan, Prepares}
use Rattle.core_machine.proofs.Joining.{changed_same}
use Rattle.machine_parts.proofs.There.{all_there}

set_all : {X : Type 0} (P : X → Type 0) (xs : List X) (i : ℕ) (x : X) → AllByRecursion P xs → P x → AllByRecursion P (set xs i x)
set_all P [] i x all here = tt
set_all P (y ∷ ys) zero x all here = (here, all.1)
set_all P (y ∷ ys) (suc i) x all here = (all.0, set_all P ys i x all.1 here)

map_set : (cs : List Connection) (at : ℕ) (c : Connection) → map session_of (set cs at c) ≡ change_at at (λ _. c.session) (map session_of cs)
map_set [] at c = refl
map_set (d ∷ ds) zero c = refl
map_set (d ∷ ds) (suc at) c = ap (λ ss. session_of d ∷ ss) (map_set ds at c)

-- ---- the lines that are due

sum_at : (a b c d e : ℕ) → a + b ≡ c + d → (e + a) + b ≡ (e + c) + d
sum_at a b c d e h = omega (arith, h)

sum_first : (a b c : ℕ) → (a + b) + c ≡ (c + b) + a
sum_first a b c = omega arith

due_moved : (at : ℕ) (ss : List Session) (s x : Session) → slice_get ss at ≡ Some s → due_all (change_at at (λ _. x) ss) + due s ≡ due_all ss + due x
due_moved at [] s x h = absurd (cc)
due_moved zero (y ∷ ys) s x h =
    let same : y ≡ s = cc in sum_first (due x) (due_all ys) (due s) ∙ ap (λ z. (due z + due_all ys) + due x) (sym same)
due_moved (suc at) (y ∷ ys) s x h = sum_at (due_all (change_at at (λ _. x) ys)) (due s) (due_all ys) (due x) (due y) (due_moved at ys s x h)

due_there : (at : ℕ) (ss : List Session) (s : Session) → slice_get ss at ≡ Some s → due s ≤ due_all ss
due_there at [] s there = absurd (cc)
due_there zero (y ∷ ys) s there = let same : y ≡ s = cc in subst (λ z. due z ≤ due y + due_all ys) same (omega arith)
due_there (suc at) (y ∷ ys) s there = let more = due_there at ys s there in omega (arith, more)

-- of an open session two at least
due_open : (s : Session) → is_open s ≡ true → 2 ≤ due s
due_open s open_now = subst (λ b. 2 ≤ cond b (2 + cond s.ready 0 1 + cond s.quiet 0 2) 0) (sym open_now) (omega arith)

-- of one that is accepted, or for which a start is prepared, as many as before
pub due_accepted : (plan : Plan) (s : Session) → s.phase ≡ Second → due (accepted plan s) ≡ due s
due_accepted plan s second = ap (λ p. cond (not (has_ended p)) (2 + cond s.ready 0 1 + cond s.quiet 0 2) 0) (sym second)

pub due_prepared : (r : Result Plan NoMemory) (s t : Session) → IfOk r (λ p. t ≡ with_plan p s) → OnErr r (t ≡ s) → due t ≡ due s
due_prepared (Ok p) s t ok err = ap due ok
due_prepared (Err e) s t ok err = ap due err

-- ---- the machine's parts, where `x` is put in the place of the session of the connection `d`

module _ (a : Inside) (m : State) (is : seen a ≡ m) (at : ℕ) (d : Connection) (x : Session) (value : d ≡ get_or a.sessions.items at d) (lt : at < length m.sessions) where
  abbrev put : Connection
  put = record { session = x; aim = d.aim }

  there : slice_get a.sessions.items at ≡ Some d
  there =
      let n = ap (λ k. length k.sessions) is in
      let k = length-map a.sessions.items session_of in
      slice_get-get_or a.sessions.items at d (omega (arith, lt, n, k)) ∙ ap Some (sym value)

  seen_there : slice_get (map session_of a.sessions.items) at ≡ Some d.session
  seen_there = slice_get-map session_of a.sessions.items at ∙ ap (option_map session_of) there

  pub is_session : (s : Session) → slice_get m.sessions at ≡ Some s → d.session ≡ s
  is_session s h = same_Some d.session s (sym seen_there ∙ ap (λ k. slice_get k.sessions at) is ∙ h)

  pub put_aims : IsRoomy a → AllByRecursion (λ (c : Connection). c.aim ≡ None) (set a.sessions.items at put)
  put_aims roomy =
      set_all (λ (c : Connection). c.aim ≡ None) a.sessions.items at put roomy.aims (all_there (λ (c : Connection). c.aim ≡ None) at a.sessions.items d there roomy.aims)

  due_put : due_all (map session_of (set a.sessions.items at put)) + due d.session ≡ due_all (map session_of a.sessions.items) + due x
  due_put = ap (λ ss. due_all ss + due d.session) (map_set a.sessions.items at put) ∙ due_moved at (map session_of a.sessions.items) d.session x seen_there

  put_is : (f : Session → Session) → x ≡ f d.session → map session_of (set a.sessions.items at put) ≡ change_at at f (map session_of a.sessions.items)
  put_is f e = map_set a.sessions.items at put ∙ changed_same at (λ _. x) f (map session_of a.sessions.items) d.session seen_there e

  pub put_roomy : due x ≡ due d.session → IsRoomy a → IsRoomy (record a { sessions = with_item a.sessions at put })
  put_roomy same roomy = record {
    aims = put_aims roomy;
    room = let room = roomy.room in let e = due_put in omega (arith, room, e, same);
  }

  pub put_seen : (f : Session → Session) → x ≡ f d.session → seen (record a { sessions = with_item a.sessions at put }) ≡ changed_at at f m
  put_seen f e = ap (λ ss. record (seen a) { sessions = ss }) (put_is f e) ∙ ap (changed_at at f) is

  pub prepares : (r : Result Plan NoMemory) (rules : Rules) → IfOk r (λ p. IsUpdate d.session rules p) → IfOk r (λ p. x ≡ with_plan p d.session) → IfOk r (λ p. Prepares at rules p m (seen (record a { sessions = with_item a.sessions at put })))
  prepares (Ok p) rules update now = (put_seen (with_plan p) now, λ t h. subst (λ s. IsUpdate s rules p) (is_session t h) update)
  prepares (Err e) rules update now = tt

  -- an open session that ends leaves room for its line
  pub room_for_line : is_open d.session ≡ true → IsRoomy a → vec_len a.lines < vec_capacity a.lines
  room_for_line open_now roomy =
      let two = due_open d.session open_now in
      let among = due_there at (map session_of a.sessions.items) d.session seen_there in
      let room = roomy.room in
      omega (arith, two, among, room)

  pub room_behind : (len capacity : ℕ) → is_open d.session ≡ true → due x ≡ 0 → len ≡ vec_len a.lines + 1 → capacity ≡ vec_capacity a.lines → IsRoomy a → len + due_all (map session_of (set a.sessions.items at put)) ≤ capacity
  room_behind len capacity open_now none long wide roomy =
      let two = due_open d.session open_now in let e = due_put in let room = roomy.room in omega (arith, two, e, none, long, wide, room)

  pub closes_seen : (t : Session) (end : End) (connection : ℕ) (jobs : List Job) (told : List Line) → x ≡ ended d.session → connection ≡ t.connection → jobs ≡ filter (λ (j : Job). not (j.connection == connection)) a.jobs.items → told ≡ a.lines.items ++ lines.Closed connection (why_of end) ∷ [] → record (seen a) { sessions = map session_of (set a.sessions.items at put); jobs = jobs; lines = told } ≡ closes_at at t end m
  closes_seen t end connection jobs told ended_is tied jobs_are told_are =
      let js = jobs_are ∙ ap (λ n. filter (λ (j : Job). not (j.connection == n)) a.jobs.items) tied in
      let ls = told_are ∙ ap (λ n. a.lines.items ++ lines.Closed n (why_of end) ∷ []) tied in
      ap (λ ss. record (seen a) { sessions = ss; jobs = jobs; lines = told }) (put_is ended ended_is)
      ∙ ap (λ q. record (seen a) { sessions = change_at at ended (map session_of a.sessions.items); jobs = q; lines = told }) js
      ∙ ap (λ q. record (seen a) { sessions = change_at at ended (map session_of a.sessions.items); jobs = filter (λ (j : Job). not (j.connection == t.connection)) a.jobs.items; lines = q }) ls
      ∙ ap (closes_at at t end) is

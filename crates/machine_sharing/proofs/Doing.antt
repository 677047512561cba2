-- What one allowed entry does, by its effect: to each session in its place, and to traces.
use Rattle.std.proofs.Common.{◌≡◌, ℕ, Bool, true, false, List, [], ◌∷◌, ◌++◌, refl, sym, ap, ap₂, ◌∙◌, subst, inl, inr, ⊎_elim}
use Rattle.std.specs.Prelude.{◌==◌, ◌&&◌, not, map, if◌then◌else◌, Option, Some, None}
use Rattle.std.specs.List.{AllZip}
use Rattle.std.proofs.lemmas.Bool.{and_parts, cases_eq, eq-eqb, eqb-true, ne_eqb}
use Rattle.maple_base.specs.declared.cells.Cell.{Cell}
use Rattle.maple_base.specs.declared.cells.Value.{Value}
use Rattle.maple_base.specs.declared.decision.Decision.{Decision}
use Rattle.maple_base.specs.declared.items.Item.{Item}
use Rattle.maple_base.specs.Decisions.{actions_at}
use Rattle.of10_codec.specs.declared.message.Message.{Message}
use Rattle.report_text.specs.declared.line.Learnt.{Learnt}
use Rattle.report_text.specs.declared.line.Learnt.TheVariants.{Learned}
use Rattle.switch_session.specs.declared.part.Part.{Part}
use Rattle.switch_session.specs.declared.part.UnderWay.{UnderWay}
use Rattle.switch_session.specs.Lists.{Lists}
use Rattle.switch_session.specs.Parts.{Update as Plan, is_nil, packet_out}
use Rattle.switch_session.specs.Sessions.{aimed, aimed_by, leaves, put}
use Rattle.trace_tree.specs.declared.node.Trace.{Trace}
use Rattle.history_lock.specs.Histories.{StartsWith}
use Rattle.machine_steps.specs.declared.entry.Entry.{Entry}
use Rattle.machine_steps.specs.declared.entry.Entry.TheVariants as entries
use Rattle.machine_steps.specs.declared.job.Job.{Job}
use Rattle.machine_steps.specs.declared.reply.Reply.{Reply}
use Rattle.machine_steps.specs.declared.reply.Reply.TheVariants.{Answered}
use Rattle.machine_steps.specs.Effects.{tells_run, may_advance, IsEndOf, IsPlain, Effect, Running}
use Rattle.machine_steps.specs.Effects.Effect.{RunsOut, Rests, Misses, Outdates, Tells, Reports, OpensSession, TurnsAway, Empties, Moves, Quiets, Ends, Advances, Renews, Accepts, Overflows, Waits, Spends, AnswersJob}
use Rattle.machine_steps.specs.Machine.{Session, State, has_ended, is_of, is_open, put_traces, traces_in, traces_of}
use Rattle.machine_steps.specs.Sound.{IsSound}
use Rattle.machine_steps.specs.Steps.{Answers, HeadsFor, Keeps, next_trace, sends}
use Rattle.machine_steps.proofs.Sound.Following.{Put, put_zip}
use Rattle.machine_steps.proofs.Sound.Kept.{traces_beside, traces_put}
use Rattle.machine_steps.proofs.Sound.Zipped.{find_passes, zip_refl, zip_weaker}
use Rattle.machine_sharing.specs.Between.{AllBoth, AnswersBy, DoesTo, IsAnswered, LedBy, OnlyGrows}
use Rattle.machine_sharing.specs.Sharing.{Allows, Call}
use Rattle.machine_sharing.proofs.Lists.{both_found, starts_same, starts_then}

-- ---- what is allowed

pub never : true ≡ false → ⊥
never e = cc

-- no pass but that which leads enters any other
abbrev pub may_share : Entry → Bool
may_share entries.ReadPolicy = true
may_share (entries.ReadCell cell) = true
may_share entries.OpenJobs = true
may_share (entries.Commit job run) = true
may_share (entries.Decide job) = true
may_share entry = false

-- an allowed entry reaches no state, and ends no session
pub record IsShared (entry : Entry) : Type 0 where
  pub shared : may_share entry ≡ true
  pub still : may_advance entry ≡ false
  pub no_end : (c : ℕ) → IsEndOf c entry → ⊥

pub shared_of : (log : List Call) (entry : Entry) → Allows log entry → IsShared entry
shared_of log entries.ReadPolicy is = record { shared = refl; still = refl; no_end = λ c e. absurd e }
shared_of log (entries.ReadCell cell) is = record { shared = refl; still = refl; no_end = λ c e. absurd e }
shared_of log entries.OpenJobs is = record { shared = refl; still = refl; no_end = λ c e. absurd e }
shared_of log (entries.Commit job run) is = record { shared = refl; still = refl; no_end = λ c e. absurd e }
shared_of log (entries.Decide job) is = record { shared = refl; still = refl; no_end = λ c e. absurd e }
shared_of log entry is = absurd is

-- ---- a session that grows

pub grows_same : (s t : Session) → t ≡ s → OnlyGrows s t
grows_same s t e = record {
  connection = ap (λ (x : Session). x.connection) e;
  capacity = ap (λ (x : Session). x.capacity) e;
  phase = ap (λ (x : Session). x.phase) e;
  dpid = ap (λ (x : Session). x.dpid) e;
  ready = ap (λ (x : Session). x.ready) e;
  quiet = ap (λ (x : Session). x.quiet) e;
  taken = ap (λ (x : Session). x.taken) e;
  outbox = starts_same s.outbox t.outbox (ap (λ (x : Session). x.outbox) e);
}

pub grows_then : (s t u : Session) → OnlyGrows s t → OnlyGrows t u → OnlyGrows s u
grows_then s t u g h = record {
  connection = h.connection ∙ g.connection;
  capacity = h.capacity ∙ g.capacity;
  phase = h.phase ∙ g.phase;
  dpid = h.dpid ∙ g.dpid;
  ready = h.ready ∙ g.ready;
  quiet = h.quiet ∙ g.quiet;
  taken = h.taken ∙ g.taken;
  outbox = starts_then s.outbox t.outbox u.outbox g.outbox h.outbox;
}

leaves_grows : (lists : Lists) (parts : List Part) (s : Session) → OnlyGrows s (leaves lists parts s)
leaves_grows lists [] s = record { connection = refl; capacity = refl; phase = refl; dpid = refl; ready = refl; quiet = refl; taken = refl; outbox = starts_same s.outbox s.outbox refl }
leaves_grows lists (part ∷ parts) s = record { connection = refl; capacity = refl; phase = refl; dpid = refl; ready = refl; quiet = refl; taken = refl; outbox = (_, refl) }

aimed_grows : (plan : Plan) (s : Session) → OnlyGrows s (aimed plan s)
aimed_grows plan s = go plan.settled s.under_way
  where
    go : (b : Bool) (part : Option UnderWay) → OnlyGrows s (aimed_by b part plan (record s { prepared = None }))
    go true part = record { connection = refl; capacity = refl; phase = refl; dpid = refl; ready = refl; quiet = refl; taken = refl; outbox = starts_same s.outbox s.outbox refl }
    go false None =
        let g = leaves_grows (record { from = s.target; to = plan.rules }) plan.parts (record s { prepared = None; target = plan.rules; next = None }) in
        record { connection = g.connection; capacity = g.capacity; phase = g.phase; dpid = g.dpid; ready = g.ready; quiet = g.quiet; taken = g.taken; outbox = g.outbox }
    go false (Some part) = record { connection = refl; capacity = refl; phase = refl; dpid = refl; ready = refl; quiet = refl; taken = refl; outbox = starts_same s.outbox s.outbox refl }

heads_grows : (traces : List Trace) (s t : Session) → HeadsFor traces s t → OnlyGrows s t
heads_grows traces s t heads = subst (OnlyGrows s) (sym heads.now_is) (aimed_grows heads.plan s)

sends_grows : (j : Job) (d : Decision) (s : Session) → OnlyGrows s (sends j d s)
sends_grows j d s = go (is_nil (actions_at d j.switch)) (packet_out j.buffer j.key.in_port (actions_at d j.switch) j.frame)
  where
    go : (b : Bool) (message : Message) → OnlyGrows s (if b then s else put message s)
    go true message = grows_same s s refl
    go false message = record { connection = refl; capacity = refl; phase = refl; dpid = refl; ready = refl; quiet = refl; taken = refl; outbox = (message ∷ [], refl) }

led_grows : (l : Learnt) (traces : List Trace) (s t : Session) → LedBy l traces s t → OnlyGrows s t
led_grows Learned traces s t heads = heads_grows traces s t heads
led_grows other traces s t e = grows_same s t e

answers_grows : (b : Bool) (j : Job) (d : Decision) (l : Learnt) (new : State) (s t : Session) → AnswersBy b j d l new s t → OnlyGrows s t
answers_grows true j d l new s t does = grows_then s (sends j d s) t (sends_grows j d s) (led_grows l (traces_of j.switch new) (sends j d s) t does)
answers_grows false j d l new s t e = grows_same s t e

pub does_grows : (old : State) (entry : Entry) (reply : Reply) (new : State) (s t : Session) → DoesTo old entry reply new s t → OnlyGrows s t
does_grows old entry (Answered d l) new s t a = answers_grows (a.job.connection == s.connection) a.job d l new s t a.does
does_grows old entry other new s t e = grows_same s t e

-- what grows is found where it was
pub found_both : (R : Session → Session → Type 0) (old new : State) → ((s t : Session) → R s t → OnlyGrows s t) → AllZip R old.sessions new.sessions → AllBoth R old new
found_both R old new f zip c = (
  both_found R (is_of c) (λ s t r. (let g = f s t r in ap₂ (λ d p. d == c && not (has_ended p)) g.connection g.phase)) old.sessions new.sessions zip,
  both_found R (λ (s : Session). s.connection == c) (λ s t r. ap (λ d. d == c) (f s t r).connection) old.sessions new.sessions zip,
)

-- ---- an answer

-- what an entry does to each session, and to the traces of each switch
pub record Does (old : State) (entry : Entry) (reply : Reply) (new : State) : Type 0 where
  pub sessions : AllZip (DoesTo old entry reply new) old.sessions new.sessions
  pub traces : (switch : ℕ) → StartsWith (traces_of switch new) (traces_of switch old)

-- one more trace of a switch
more_traces : (switch : ℕ) (r : Trace) (old kept : State) → kept.learned ≡ put_traces switch (traces_of switch old ++ r ∷ []) old.learned → (q : ℕ) → StartsWith (traces_of q kept) (traces_of q old)
more_traces switch r old kept e q =
    let all : List Trace = traces_of switch old ++ r ∷ [] in
    ⊎_elim
    (λ same. subst (λ n. StartsWith (traces_of n kept) (traces_of n old)) (sym same) (r ∷ [], ap (λ ls. traces_in ls switch) e ∙ traces_put switch all old.learned))
    (λ other. starts_same (traces_of q old) (traces_of q kept) (ap (λ ls. traces_in ls q) e ∙ traces_beside switch all q other old.learned))
    (cases_eq q switch)

module _ (old : State) (entry : Entry) (j : Job) (run : Running old entry j) (d : Decision) (l : Learnt) (new : State) where
  -- in the place of the session of the job's connection there is this one, which was led
  answered : (s t : Session) → is_of j.connection s ≡ true → LedBy l (traces_of j.switch new) (sends j d s) t → (x y : Session) → Put s t x y → IsAnswered old entry d l new x y
  answered s t of led x y (inl (is, now)) =
      let its : j.connection ≡ x.connection = sym (eqb-true s.connection j.connection (and_parts (s.connection == j.connection) (is_open s) of).0) ∙ ap (λ (z : Session). z.connection) (sym is) in
      let led' : LedBy l (traces_of j.switch new) (sends j d x) y =
      subst (λ z. LedBy l (traces_of j.switch new) (sends j d x) z) (sym now) (subst (λ z. LedBy l (traces_of j.switch new) (sends j d z) t) (sym is) led) in
      record { job = j; running = run; does = subst (λ b. AnswersBy b j d l new x y) (sym (eq-eqb j.connection x.connection its)) led' }
  answered s t of led x y (inr (other, now)) =
      let its = eqb-true s.connection j.connection (and_parts (s.connection == j.connection) (is_open s) of).0 in
      record { job = j; running = run; does = subst (λ b. AnswersBy b j d l new x y) (sym (ne_eqb j.connection x.connection (λ e. other.connections (sym e ∙ sym its)))) now }

module _ (old : State) (sound : IsSound old) (entry : Entry) (reply : Reply) (new : State) where
  abbrev Doing : Type 0
  Doing = Does old entry reply new

  module _ (j : Job) (items : List Item) (cells : List (Cell × Value)) (d : Decision) (run : Running old entry j) where
    -- the session of the job's connection is replaced by this one
    replaced : (s t : Session) (l : Learnt) → is_of j.connection s ≡ true → reply ≡ Answered d l → LedBy l (traces_of j.switch new) (sends j d s) t
        → AllZip (Put s t) old.sessions new.sessions → AllZip (DoesTo old entry reply new) old.sessions new.sessions
    replaced s t l of r led zip =
        let P : Reply → Type 0 = λ x. AllZip (DoesTo old entry x new) old.sessions new.sessions in
        subst P (sym r) (zip_weaker (Put s t) (IsAnswered old entry d l new) (answered old entry j run d l new s t of led) old.sessions new.sessions zip)

    answers : Answers j items cells d old reply new → Doing
    answers a = go a.learns a.replies a.keeps
      where
        of : is_of j.connection a.session ≡ true
        of = find_passes (is_of j.connection) old.sessions a.session a.there

        sent : Session
        sent = sends j d a.session

        zipped : (t : Session) → t.connection ≡ a.session.connection → new.sessions ≡ map (λ (x : Session). if x.connection == t.connection then t else x) old.sessions
            → AllZip (Put a.session t) old.sessions new.sessions
        zipped t same e = subst (AllZip (Put a.session t) old.sessions) (sym e) (put_zip (is_of j.connection) old.sessions a.session t same sound.others a.there)

        stays : (l : Learnt) → reply ≡ Answered d l → LedBy l (traces_of j.switch new) sent sent → a.kept ≡ record old { sessions = map (λ (x : Session). if x.connection == sent.connection then sent else x) old.sessions } → Doing
        stays l r led e =
            let same = (sends_grows j d a.session).connection in
            let ss : new.sessions ≡ map (λ (x : Session). if x.connection == sent.connection then sent else x) old.sessions =
            ap (λ (m : State). m.sessions) a.now_is ∙ ap (λ (m : State). m.sessions) e in
            record {
              sessions = replaced a.session sent l of r led (zipped sent same ss);
              traces = λ q. starts_same (traces_of q old) (traces_of q new) (ap (traces_of q) a.now_is ∙ ap (traces_of q) e);
            }

        go : (l : Learnt) → reply ≡ Answered d l → Keeps l j (next_trace items cells d old) sent old a.kept → Doing
        go Learned r (t, heads, e) =
            let all : List Trace = traces_of j.switch old ++ next_trace items cells d old ∷ [] in
            let same = (grows_then a.session sent t (sends_grows j d a.session) (heads_grows all sent t heads)).connection in
            let ss : new.sessions ≡ map (λ (x : Session). if x.connection == t.connection then t else x) old.sessions =
            ap (λ (m : State). m.sessions) a.now_is ∙ ap (λ (m : State). m.sessions) e in
            let ls : new.learned ≡ put_traces j.switch all old.learned = ap (λ (m : State). m.learned) a.now_is ∙ ap (λ (m : State). m.learned) e in
            let now : traces_of j.switch new ≡ all = ap (λ xs. traces_in xs j.switch) ls ∙ traces_put j.switch all old.learned in
            record {
              sessions = replaced a.session t Learned of r (subst (λ rs. HeadsFor rs sent t) (sym now) heads) (zipped t same ss);
              traces = more_traces j.switch (next_trace items cells d old) old new ls;
            }
        go other r e = stays other r refl e

  -- ---- any other effect

  abbrev is_answer : Reply → Bool
  is_answer (Answered d l) = true
  is_answer r = false

  no_answer : (r : Reply) → tells_run r ≡ false → is_answer r ≡ false
  no_answer (Answered d l) f = absurd (never f)
  no_answer other f = refl

  itself : (r : Reply) → is_answer r ≡ false → (s : Session) → DoesTo old entry r new s s
  itself (Answered d l) f s = absurd (never f)
  itself other f s = refl

  -- sessions and traces are as before
  rests : is_answer reply ≡ false → new.sessions ≡ old.sessions → new.learned ≡ old.learned → Doing
  rests r e f = record {
    sessions = subst (AllZip (DoesTo old entry reply new) old.sessions) (sym e) (zip_refl (DoesTo old entry reply new) (itself reply r) old.sessions);
    traces = λ q. starts_same (traces_of q old) (traces_of q new) (ap (λ ls. traces_in ls q) f);
  }

  same : is_answer reply ≡ false → new ≡ old → Doing
  same r e = rests r (ap (λ (m : State). m.sessions) e) (ap (λ (m : State). m.learned) e)

  plain : IsPlain reply → is_answer reply ≡ false
  plain p = no_answer reply (ap (λ (x : Bool × Bool × Bool × Bool). x.2) p.0)

  module _ (shared : IsShared entry) where
    other : (e : Entry) → may_share e ≡ false → entry ≡ e → Doing
    other e f is = absurd (never (sym shared.shared ∙ ap may_share is ∙ f))

    pub does_by : Effect old entry reply new → Doing
    does_by (RunsOut (r, e)) = same (ap is_answer r) e
    does_by (Rests p e) = same (plain p) e
    does_by (Misses number is r e) = same (ap is_answer r) e
    does_by (Outdates number is differs r more e) = rests (ap is_answer r) (ap (λ (m : State). m.sessions) e) (ap (λ (m : State). m.learned) e)
    does_by (Tells p more e) = rests (plain p) (ap (λ (m : State). m.sessions) e) (ap (λ (m : State). m.learned) e)
    does_by (Spends j run r e) = rests (ap is_answer r) (ap (λ (m : State). m.sessions) e) (ap (λ (m : State). m.learned) e)
    does_by (AnswersJob j items cells d run a) = answers j items cells d run a
    does_by (Reports is r e) = other _ refl is
    does_by (OpensSession c is fresh few r e) = other _ refl is
    does_by (TurnsAway c is fresh full r e) = other _ refl is
    does_by (Empties c s t bytes is found out r e) = other _ refl is
    does_by (Moves h t from still p more e) = other _ refl from.is
    does_by (Quiets kind code t from p e) = other _ refl from.is
    does_by (Ends t end (inl (c, s, is, found, now)) r more e) = absurd (shared.no_end c is)
    does_by (Ends t end (inr (inl (u, dpid, ports, from, now))) r more e) = other _ refl from.is
    does_by (Ends t end (inr (inr (why, from))) r more e) = other _ refl from.is
    does_by (Advances u may free r a) = absurd (never (sym may ∙ shared.still))
    does_by (Renews p is r a) = other _ refl is
    does_by (Accepts t dpid ports from r joins) = other _ refl from.is
    does_by (Overflows t buffer frame k taught p many r e) = other _ refl p.hearing.is
    does_by (Waits t buffer frame k taught p few r e) = other _ refl p.hearing.is

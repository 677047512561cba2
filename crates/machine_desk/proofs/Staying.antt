-- Which sessions are open behind what others do, and which connections were opened.
use Rattle.std.proofs.Common.{◌≡◌, ℕ, true, false, Bool, List, [], ◌∷◌, ◌++◌, refl, sym, ap, ◌∙◌, not, subst, inl, inr, ⊎_elim}
use Rattle.std.specs.Prelude.{◌==◌, find, if◌then◌else◌, Option, Some, None, is_some}
use Rattle.std.proofs.lemmas.Bool.{and_parts, cases_Bool, cases_eq, eqb-true}
use Rattle.history_lock.specs.Histories.{AreAllowed}
use Rattle.maple_base.specs.declared.cells.Cell.{Cell}
use Rattle.maple_base.specs.declared.cells.Value.{Value}
use Rattle.maple_base.specs.declared.decision.Decision.{Decision}
use Rattle.maple_base.specs.declared.decision.Outcome.{Outcome}
use Rattle.maple_base.specs.declared.decision.Outcome.TheVariants.{Decided, Spent}
use Rattle.maple_base.specs.declared.items.Item.{Item}
use Rattle.maple_base.specs.Decisions.{actions_at}
use Rattle.report_text.specs.declared.line.Learnt.{Learnt}
use Rattle.report_text.specs.declared.line.Learnt.TheVariants.{Learned}
use Rattle.switch_session.specs.declared.part.Part.{Part}
use Rattle.switch_session.specs.declared.part.UnderWay.{UnderWay}
use Rattle.switch_session.specs.Lists.{Lists}
use Rattle.switch_session.specs.Parts.{Update as Plan, is_nil, packet_out}
use Rattle.switch_session.specs.Sessions.{aimed, aimed_by, leaves, put}
use Rattle.trace_record.specs.Runs.{Recorded}
use Rattle.machine_moves.specs.MoveLaws.{ConnectionsOpen}
use Rattle.machine_moves.proofs.Found.{found_beside, found_placed, placed}
use Rattle.machine_steps.specs.declared.entry.Entry.{Entry}
use Rattle.machine_steps.specs.declared.entry.Entry.TheVariants as entries
use Rattle.machine_steps.specs.declared.job.Job.{Job}
use Rattle.machine_steps.specs.declared.reply.Reply.{Reply}
use Rattle.machine_steps.specs.declared.reply.Reply.TheVariants as replies
use Rattle.machine_steps.specs.Histories.{Leads, Turn}
use Rattle.machine_steps.specs.Machine.{Session, State, has_ended, is_of, is_open, session_at, was_opened}
use Rattle.machine_steps.specs.Steps.{Answers, Commits, Concludes, Decides, Keeps, LendsPolicy, Steps, next_trace, sends}
use Rattle.machine_steps.proofs.Sound.Zipped.{find_passes}
use Rattle.machine_sharing.specs.Legal.{call_of}
use Rattle.machine_sharing.specs.Sharing.{Allows, Call}
use Rattle.machine_desk.specs.Desks.{calls_of}
use Rattle.machine_desk.specs.Hearing.{StagesStay}

-- ---- a session that an answer is sent to, or that is led

-- it is of the same connection, in the same phase
abbrev Alike : Session → Session → Type 0
Alike s t = (t.connection ≡ s.connection) × (t.phase ≡ s.phase)

leaves_alike : (lists : Lists) (parts : List Part) (s : Session) → Alike s (leaves lists parts s)
leaves_alike lists [] s = (refl, refl)
leaves_alike lists (part ∷ parts) s = (refl, refl)

aimed_alike : (plan : Plan) (s : Session) → Alike s (aimed plan s)
aimed_alike plan s = go plan.settled s.under_way
  where
    go : (b : Bool) (part : Option UnderWay) → Alike s (aimed_by b part plan (record s { prepared = None }))
    go true part = (refl, refl)
    go false None = leaves_alike (record { from = s.target; to = plan.rules }) plan.parts (record s { prepared = None; target = plan.rules; next = None })
    go false (Some part) = (refl, refl)

sent_alike : (j : Job) (d : Decision) (s : Session) → Alike s (sends j d s)
sent_alike j d s = go (is_nil (actions_at d j.switch))
  where
    go : (b : Bool) → Alike s (if b then s else put (packet_out j.buffer j.key.in_port (actions_at d j.switch) j.frame) s)
    go true = (refl, refl)
    go false = (refl, refl)

module _ (c : ℕ) (old : State) where
  -- the session of a connection is open behind an entry where it was ahead of it
  abbrev IsOpenAs : State → Type 0
  IsOpenAs new = is_some (session_at c new) ≡ is_some (session_at c old)

  unmoved : (new : State) → new.sessions ≡ old.sessions → IsOpenAs new
  unmoved new e = ap (λ (ss : List Session). is_some (find (is_of c) ss)) e

  same : (new : State) → new ≡ old → IsOpenAs new
  same new e = unmoved new (ap (λ (m : State). m.sessions) e)

  -- an open session is another now, which is like it
  replaced : (d : ℕ) (s t : Session) (new : State) → session_at d old ≡ Some s → Alike s t → new.sessions ≡ placed t old.sessions → IsOpenAs new
  replaced d s t new there alike are =
      let both = and_parts (s.connection == d) (is_open s) (find_passes (is_of d) old.sessions s there) in
      let its : t.connection ≡ d = alike.0 ∙ eqb-true s.connection d both.0 in
      let opened : is_open t ≡ true = ap (λ p. not (has_ended p)) alike.1 ∙ both.1 in
      ap (λ (ss : List Session). is_some (find (is_of c) ss)) are
      ∙ ⊎_elim
      (λ e. (let here : session_at c old ≡ Some s = ap (λ n. session_at n old) e ∙ there in
      ap is_some (found_placed c t old.sessions (its ∙ sym e) opened s here) ∙ sym (ap is_some here)))
      (λ o. ap is_some (found_beside c t old.sessions (λ e. o (sym e ∙ its)))) (cases_eq c d)

  -- ---- what others enter

  answers : (j : Job) (items : List Item) (cells : List (Cell × Value)) (d : Decision) (reply : Reply) (new : State) → Answers j items cells d old reply new → IsOpenAs new
  answers j items cells d reply new a = go a.learns a.keeps
    where
      go : (l : Learnt) → Keeps l j (next_trace items cells d old) (sends j d a.session) old a.kept → IsOpenAs new
      go Learned (t, heads, e) =
          let sent = sent_alike j d a.session in
          let led = aimed_alike heads.plan (sends j d a.session) in
          let alike : Alike a.session t = (ap (λ (s : Session). s.connection) heads.now_is ∙ led.0 ∙ sent.0, ap (λ (s : Session). s.phase) heads.now_is ∙ led.1 ∙ sent.1) in
          replaced j.connection a.session t new a.there alike (ap (λ (m : State). m.sessions) a.now_is ∙ ap (λ (m : State). m.sessions) e)
      go other e =
          replaced j.connection a.session (sends j d a.session) new a.there (sent_alike j d a.session)
          (ap (λ (m : State). m.sessions) a.now_is ∙ ap (λ (m : State). m.sessions) e)

  concludes : (j : Job) (items : List Item) (cells : List (Cell × Value)) (o : Outcome) (reply : Reply) (new : State) → Concludes j items cells o old reply new → IsOpenAs new
  concludes j items cells Spent reply new (r, e) = unmoved new (ap (λ (m : State). m.sessions) e)
  concludes j items cells (Decided d) reply new a = answers j items cells d reply new a

  commits : (number : ℕ) (run : Recorded) (reply : Reply) (new : State) → Commits number run old reply new → IsOpenAs new
  commits number run reply new (inl (none, r, e)) = same new e
  commits number run reply new (inr (inl (j, is, other, r, e))) = unmoved new (ap (λ (m : State). m.sessions) e)
  commits number run reply new (inr (inr (inl (j, c, was, is, it, policy, stale, r, e)))) = unmoved new (ap (λ (m : State). m.sessions) e)
  commits number run reply new (inr (inr (inr (inl (j, is, policy, cells, does))))) = concludes j run.items run.cells run.outcome reply new does
  commits number run reply new (inr (inr (inr (inr (r, e))))) = same new e

  decides : (number : ℕ) (reply : Reply) (new : State) → Decides number old reply new → IsOpenAs new
  decides number reply new (inl (none, r, e)) = same new e
  decides number reply new (inr (inl (j, is, does))) = concludes j _ _ _ reply new does
  decides number reply new (inr (inr (r, e))) = same new e

  lends : (reply : Reply) (new : State) → LendsPolicy old reply new → IsOpenAs new
  lends (replies.Policy number lent) new (n, p, e) = same new e
  lends replies.NoMemory new e = same new e
  lends other new h = absurd h

  one_stays : (log : List Call) (entry : Entry) (reply : Reply) (new : State) → Allows log entry → Steps old entry reply new → IsOpenAs new
  one_stays log entries.ReadPolicy reply new is h = lends reply new h
  one_stays log (entries.ReadCell cell) reply new is (r, e) = same new e
  one_stays log entries.OpenJobs reply new is (r, e) = same new e
  one_stays log (entries.Commit job run) reply new is h = commits job run reply new h
  one_stays log (entries.Decide job) reply new is h = decides job reply new h
  one_stays log entry reply new is h = absurd is

-- ---- which connections were opened

abbrev pub is_opening : Entry → Bool
is_opening (entries.Open c) = true
is_opening entry = false

opens_none : (entry : Entry) (c : ℕ) → is_opening entry ≡ false → entry ≡ entries.Open c → ⊥
opens_none entry c f e = (let g : true ≡ false = sym (ap is_opening e) ∙ f in cc)

-- none is but by an Open
pub opened_same : ConnectionsOpen → (old : State) (entry : Entry) (reply : Reply) (new : State) → Steps old entry reply new → is_opening entry ≡ false → (c : ℕ)
    → was_opened c new ≡ was_opened c old
opened_same connections old entry reply new steps none c =
    let only = connections old entry reply new steps in
    ⊎_elim (λ was. only.stay c was ∙ sym was)
    (λ was. ⊎_elim (λ is. absurd (opens_none entry c none (only.others c was is))) (λ is. is ∙ sym was) (cases_Bool (was_opened c new))) (cases_Bool (was_opened c old))

-- ---- one behind the other

-- it is open, and was opened, as before
abbrev pub IsStill : ℕ → State → State → Type 0
IsStill c m n = (is_some (session_at c n) ≡ is_some (session_at c m)) × (was_opened c n ≡ was_opened c m)

allowed_opens : (log : List Call) (entry : Entry) → Allows log entry → is_opening entry ≡ false
allowed_opens log (entries.Open c) is = absurd is
allowed_opens log entry is = refl

pub others_leave : ConnectionsOpen → (c : ℕ) (log : List Call) (others : List Turn) (m n : State) → AreAllowed Allows log (calls_of others) → Leads m others n → IsStill c m n
others_leave connections c log [] m n all e = (ap (λ (x : State). is_some (session_at c x)) e, ap (was_opened c) e)
others_leave connections c log (t ∷ ts) m n (is, all) (begins, made, rest) =
    let later = others_leave connections c (log ++ call_of t ∷ []) ts t.behind n all rest in
    let open_too = one_stays c t.before log t.entry t.reply t.behind is made.steps in
    let opened = opened_same connections t.before t.entry t.reply t.behind made.steps (allowed_opens log t.entry is) c in
    subst (λ (x : State). IsStill c x n) begins (later.0 ∙ open_too, later.1 ∙ opened)

pub stages_stay : ConnectionsOpen → StagesStay
stages_stay connections i log others m n all leads staged =
    let still = others_leave connections i.connection log others m n all leads in
    record { live = still.0 ∙ staged.live; opened = still.1 ∙ staged.opened }

-- Which sessions are open behind an entry, and which are as they were.
use Rattle.std.proofs.Common.{◌≡◌, ◌≢◌, ℕ, Bool, true, false, cond, List, [], ◌∷◌, ◌++◌, length, refl, sym, ap, ◌∙◌, subst, inl, inr, arith}
use Rattle.std.specs.Prelude.{◌==◌, ◌&&◌, not, find, if◌then◌else◌, Contains, Option, Some, None, is_some}
use Rattle.std.specs.FinSet as set
use Rattle.std.specs.List.{list_any}
use Rattle.std.proofs.lemmas.Bool.{and_parts, and_from, and_right, eq-eqb, eqb-true, eqb-false}
use Rattle.std.proofs.lemmas.List.{length_push}
use Rattle.std.proofs.lemmas.Option.{same_Some, none-some}
use Rattle.maple_base.specs.declared.cells.Cell.{Cell}
use Rattle.maple_base.specs.declared.cells.Port.{Port}
use Rattle.maple_base.specs.declared.cells.Value.{Value}
use Rattle.maple_base.specs.declared.decision.Decision.{Decision}
use Rattle.maple_base.specs.declared.items.Item.{Item}
use Rattle.maple_base.specs.declared.key.Key.{Key}
use Rattle.maple_base.specs.Decisions.{actions_at}
use Rattle.env_cells.specs.declared.updates.Update.TheVariants.{Switch, Host}
use Rattle.report_text.specs.declared.line.Learnt.{Learnt}
use Rattle.report_text.specs.declared.line.Learnt.TheVariants.{Learned}
use Rattle.report_text.specs.declared.line.Line.TheVariants as lines
use Rattle.switch_session.specs.declared.told.End.{End}
use Rattle.switch_session.specs.declared.told.Heard.{Heard}
use Rattle.switch_session.specs.declared.told.Heard.TheVariants as heard
use Rattle.switch_session.specs.Calls.{opened, TakesOut}
use Rattle.switch_session.specs.Parts.{is_nil, packet_out}
use Rattle.switch_session.specs.Sessions.{put}
use Rattle.trace_tree.specs.declared.node.Trace.{Trace}
use Rattle.machine_steps.specs.declared.entry.Entry.{Entry}
use Rattle.machine_steps.specs.declared.entry.Entry.TheVariants as entries
use Rattle.machine_steps.specs.declared.entry.Input.TheVariants.{Message as Whole, Bad}
use Rattle.machine_steps.specs.declared.job.Job.{Job}
use Rattle.machine_steps.specs.declared.reply.Reply.{Reply}
use Rattle.machine_steps.specs.declared.reply.Reply.TheVariants.{Ended, Out}
use Rattle.machine_steps.specs.Effects.{tells_end, job_in, IsEndOf, only_moves, Hearing, Ending, Effect}
use Rattle.machine_steps.specs.Effects.Effect.{RunsOut, Rests, Misses, Outdates, Tells, Reports, OpensSession, TurnsAway, Empties, Moves, Quiets, Ends, Advances, Renews, Accepts, Overflows, Waits, Spends, AnswersJob}
use Rattle.machine_steps.specs.Machine.{Session, State, has_ended, is_open, is_of, session_at, state_number, this_state, with_session, with_traces, traces_of, tells}
use Rattle.machine_steps.specs.Steps.{switch_of, teaches, entry_of, kept_at, emptied, updated, renewed, Reaches, Joins, Teaches, TeachesBy, sends, Keeps, Answers}
use Rattle.machine_steps.specs.Sound.{IsSound}
use Rattle.machine_steps.proofs.Effects.{effect_of}
use Rattle.machine_steps.proofs.Sound.Aims.{aimed_so}
use Rattle.machine_steps.proofs.Sound.Zipped.{all_in, find_append, find_passes, none_passes}
use Rattle.machine_moves.specs.Moves.{MayBeLed}
use Rattle.machine_moves.proofs.Found.{Together, together_some, its_connection, placed, found_beside, found_placed, found_shut, found_without, find_last}
use Rattle.machine_moves.proofs.Following.{follows_reached}
use Rattle.machine_moves.proofs.Kept.{open_is_kept}
use Rattle.machine_moves.specs.Told.{is_end, may_end, concerns, EndsAreTold, OthersStay}
use Rattle.machine_moves.proofs.Heard.{ends_session, Becomes, becomes}

end_told : (r : Reply) → is_end r ≡ tells_end r
end_told (Ended end) = refl
end_told other = refl

moves_open : (h : Heard) → only_moves h ≡ true → ends_session h ≡ false
moves_open (heard.Ended end) moves = absurd (cc)
moves_open other moves = refl

some_at : (o : Option Session) → is_some o ≡ true → (s : Session) × (o ≡ Some s)
some_at None e = absurd (cc)
some_at (Some s) e = (s, refl)

together_open : (R : Session → Session → Type 0) (o p : Option Session) → Together R o p → is_some p ≡ is_some o
together_open R None None h = refl
together_open R None (Some t) h = absurd h
together_open R (Some s) None h = absurd h
together_open R (Some s) (Some t) h = refl

-- ---- a session that the entry isn't about

-- it is open as before, and where no state is made it is as it was
record Stays (c : ℕ) (old new : State) : Type 0 where
  pub open_too : is_some (session_at c new) ≡ is_some (session_at c old)
  pub as_it_was : state_number new ≡ state_number old → session_at c new ≡ session_at c old

module _ (c : ℕ) (old new : State) where
  stays_kept : session_at c new ≡ session_at c old → Stays c old new
  stays_kept e = record { open_too = ap is_some e; as_it_was = λ n. e }

  stays_same : new.sessions ≡ old.sessions → Stays c old new
  stays_same e = stays_kept (ap (find (is_of c)) e)

  -- a state is made
  stays_made : new.states ≡ old.states ++ this_state old ∷ [] → is_some (session_at c new) ≡ is_some (session_at c old) → Stays c old new
  stays_made states e = record {
    open_too = e;
    as_it_was = λ n. (let longer : length new.states ≡ length (old.states ++ this_state old ∷ []) = ap length states in absurd (omega (arith, n, longer, length_push old.states (this_state old))));
  }

  stays_along : (m : State) → Stays c old m → new.sessions ≡ m.sessions → new.states ≡ m.states → Stays c old new
  stays_along m s sessions states = record {
    open_too = ap (λ ss. is_some (find (is_of c) ss)) sessions ∙ s.open_too;
    as_it_was = λ n. ap (find (is_of c)) sessions ∙ s.as_it_was (sym (ap length states) ∙ n);
  }

  stays_reached : (next : State) → next.sessions ≡ old.sessions → next.states ≡ old.states ++ this_state old ∷ [] → Reaches old next new → Stays c old new
  stays_reached next sessions states r =
      stays_made (ap (λ (n : State). n.states) r.now_is ∙ states)
      (together_open (MayBeLed new) (session_at c next) (session_at c new) (follows_reached c old next new r) ∙ ap (λ ss. is_some (find (is_of c) ss)) sessions)

stays_taught : (c switch : ℕ) (k : Key) (old m : State) → Teaches switch k old m → Stays c old m
stays_taught c switch k old m h = go (teaches switch k old) h
  where
    go : (b : Bool) → TeachesBy b (Host k.dl_src (entry_of switch k)) old m → Stays c old m
    go true (inl a) = stays_reached c old m (updated (Host k.dl_src (entry_of switch k)) old) refl refl a.1
    go true (inr a) = stays_same c old m (ap (λ (n : State). n.sessions) a.1)
    go false e = stays_same c old m (ap (λ (n : State). n.sessions) e)

-- ---- the session of the connection d, of which the reply tells whether it ends

record Fares (c d : ℕ) (old : State) (reply : Reply) (new : State) : Type 0 where
  pub own : d ≡ c → is_some (session_at c old) ≡ true → is_some (session_at c new) ≡ not (is_end reply)
  pub others : d ≢ c → Stays c old new

module _ (c d : ℕ) (old : State) (reply : Reply) (new : State) where
  abbrev Faring : Type 0
  Faring = Fares c d old reply new

  -- it is another now
  fares_placed : (t : Session) → t.connection ≡ d → is_open t ≡ not (is_end reply) → new.sessions ≡ placed t old.sessions → Faring
  fares_placed t its now are = record {
    own = λ e o. ap (λ ss. is_some (find (is_of c) ss)) are ∙ go (is_open t) refl (its ∙ e) (some_at (session_at c old) o) ∙ now;
    others = λ o. stays_kept c old new (ap (find (is_of c)) are ∙ found_beside c t old.sessions (λ e. o (sym its ∙ e)));
  }
    where
      go : (b : Bool) → is_open t ≡ b → t.connection ≡ c → (s : Session) × (session_at c old ≡ Some s) → is_some (find (is_of c) (placed t old.sessions)) ≡ b
      go true e at s = ap is_some (found_placed c t old.sessions at e s.0 s.1)
      go false e at s = ap is_some (found_shut c t old.sessions at e)

  -- ---- a switch joins

  module _ (t : Session) (its : t.connection ≡ d) where
    -- the switch is known now, and the session accepted
    module _ (opened_now : is_open t ≡ true) (dpid : ℕ) (ports : List Port) (j : Joins t dpid ports old new) where
      abbrev next : State
      next = updated (Switch dpid ports) (with_traces dpid (traces_of dpid old) (with_session t old))

      at : j.accepted.connection ≡ d
      at = ap (λ (y : Session). y.connection) j.accepts.now_is ∙ its

      are : new.sessions ≡ placed j.accepted j.reached.sessions
      are = ap (λ (n : State). n.sessions) j.now_is

      led : Together (MayBeLed j.reached) (session_at c next) (session_at c j.reached)
      led = follows_reached c old next j.reached j.reaches

      joins : is_end reply ≡ false → Faring
      joins r = record {
        own = λ e o.
            (let s = some_at (session_at c old) o in
            let before : session_at c next ≡ Some t = found_placed c t old.sessions (its ∙ e) opened_now s.0 s.1 in
            let y = together_some (MayBeLed j.reached) t (session_at c j.reached) (subst (λ p. Together (MayBeLed j.reached) p (session_at c j.reached)) before led) in
            let found = found_placed c j.accepted j.reached.sessions (at ∙ e) (ap is_open j.accepts.now_is) y.0 y.1 in
            ap is_some (ap (find (is_of c)) are ∙ found) ∙ sym (ap not r));
        others = λ o.
            stays_made c old new (ap (λ (n : State). n.states) j.now_is ∙ ap (λ (n : State). n.states) j.reaches.now_is)
            (ap is_some (ap (find (is_of c)) are ∙ found_beside c j.accepted j.reached.sessions (λ e. o (sym at ∙ e)))
            ∙ together_open (MayBeLed j.reached) (session_at c next) (session_at c j.reached) led
            ∙ ap is_some (found_beside c t old.sessions (λ e. o (sym its ∙ e))));
      }

  -- ---- messages are taken out

  takes : IsSound old → (s t : Session) (bytes : List ℕ) → kept_at d old ≡ Some s → TakesOut s bytes t → reply ≡ Out bytes → new ≡ emptied (is_open s) t old → Faring
  takes h s t bytes found out r e = go (is_open s) refl e
    where
      its : s.connection ≡ d
      its = eqb-true s.connection d (find_passes (λ (x : Session). x.connection == d) old.sessions s found)

      at : t.connection ≡ d
      at = ap (λ (y : Session). y.connection) out.now_is ∙ its

      go : (b : Bool) → is_open s ≡ b → new ≡ emptied b t old → Faring
      go true o f = fares_placed t at (ap is_open out.now_is ∙ o ∙ sym (ap (λ a. not (is_end a)) r)) (ap (λ (n : State). n.sessions) f)
      go false o f = record {
        own = λ e w.
            (let y = some_at (session_at c old) w in
            let same : s ≡ y.0 = same_Some s y.0 (sym found ∙ ap (λ k. kept_at k old) e ∙ open_is_kept old c y.0 h y.1) in
            let opened_too = (and_parts (y.0.connection == c) (is_open y.0) (find_passes (is_of c) old.sessions y.0 y.1)).1 in
            let shut = sym (ap is_open same) ∙ o in
            absurd (cc));
        others = λ n. stays_kept c old new (ap (session_at c) f ∙ found_without c t.connection old.sessions (λ e. n (sym at ∙ e)));
      }

-- ---- answers

abbrev sent_by : Bool → Job → Decision → Session → Session
sent_by b j d s = if b then s else put (packet_out j.buffer j.key.in_port (actions_at d j.switch) j.frame) s

sent_alike : (j : Job) (d : Decision) (s : Session) → ((sends j d s).connection ≡ s.connection) × (is_open (sends j d s) ≡ is_open s)
sent_alike j d s = go (is_nil (actions_at d j.switch))
  where
    go : (b : Bool) → ((sent_by b j d s).connection ≡ s.connection) × (is_open (sent_by b j d s) ≡ is_open s)
    go true = (refl, refl)
    go false = (refl, refl)

module _ (c : ℕ) (old : State) (reply : Reply) (new : State) (j : Job) where
  kept : (l : Learnt) (r : Trace) (s : Session) (k : State) → s.connection ≡ j.connection → is_open s ≡ true → is_end reply ≡ false → Keeps l j r s old k → new.sessions ≡ k.sessions → Fares c j.connection old reply new
  kept Learned r s k its o u (t, heads, e) are =
      let a = aimed_so heads.plan s in
      fares_placed c j.connection old reply new t (ap (λ (y : Session). y.connection) heads.now_is ∙ a.connection ∙ its)
      (ap (λ (y : Session). is_open y) heads.now_is ∙ ap (λ q. not (has_ended q)) a.phase ∙ o ∙ sym (ap not u)) (are ∙ ap (λ (n : State). n.sessions) e)
  kept other r s k its o u e are = fares_placed c j.connection old reply new s its (o ∙ sym (ap not u)) (are ∙ ap (λ (n : State). n.sessions) e)

  answers : (items : List Item) (cells : List (Cell × Value)) (d : Decision) → Answers j items cells d old reply new → Fares c j.connection old reply new
  answers items cells d a =
      let s = a.session in
      let passed = find_passes (is_of j.connection) old.sessions s a.there in
      let sent = sent_alike j d s in
      kept a.learns _ (sends j d s) a.kept (sent.0 ∙ its_connection j.connection s passed) (sent.1 ∙ (and_parts (s.connection == j.connection) (is_open s) passed).1) (ap is_end a.replies) a.keeps
      (ap (λ (n : State). n.sessions) a.now_is)

-- ---- all entries

record IsTold (c : ℕ) (old : State) (entry : Entry) (reply : Reply) (new : State) : Type 0 where
  pub open_too : is_some (session_at c old) ≡ true → is_some (session_at c new) ≡ not (may_end c entry && is_end reply)
  pub as_it_was : state_number new ≡ state_number old → concerns c entry old ≡ false → session_at c new ≡ session_at c old

module _ (c : ℕ) (old : State) (entry : Entry) (reply : Reply) (new : State) where
  abbrev Telling : Type 0
  Telling = IsTold c old entry reply new

  told_stays : (may_end c entry && is_end reply) ≡ false → Stays c old new → Telling
  told_stays f s = record { open_too = λ o. s.open_too ∙ o ∙ sym (ap not f); as_it_was = λ n q. s.as_it_was n }

  -- the reply tells no end
  unended : tells_end reply ≡ false → is_end reply ≡ false
  unended f = end_told reply ∙ f

  told_open : tells_end reply ≡ false → Stays c old new → Telling
  told_open f s = told_stays (and_right (may_end c entry) (is_end reply) (unended f)) s

  told_same : tells_end reply ≡ false → new.sessions ≡ old.sessions → Telling
  told_same f e = told_open f (stays_same c old new e)

  -- of the connection d
  told_by : (d : ℕ) → (may_end c entry && is_end reply) ≡ ((d == c) && is_end reply) → concerns c entry old ≡ (d == c) → Fares c d old reply new → Telling
  told_by d ends mine f = record {
    open_too = λ o. go (d == c) refl o ∙ sym (ap not ends);
    as_it_was = λ n q. (f.others (eqb-false d c (sym mine ∙ q))).as_it_was n;
  }
    where
      go : (b : Bool) → (d == c) ≡ b → is_some (session_at c old) ≡ true → is_some (session_at c new) ≡ not (b && is_end reply)
      go true e o = f.own (eqb-true d c e) o
      go false e o = (f.others (eqb-false d c e)).open_too ∙ o

  -- of the job j
  told_job : (number : ℕ) (j : Job) → Contains old.jobs j → j.number ≡ number → may_end c entry ≡ false
      → concerns c entry old ≡ list_any (λ (i : Job). i.number == number && i.connection == c) old.jobs → is_end reply ≡ false → Fares c j.connection old reply new → Telling
  told_job number j there is no_end mine open_now f = record {
    open_too = λ o. go (j.connection == c) refl o ∙ sym (ap (λ b. not (b && is_end reply)) no_end);
    as_it_was = λ n q. (f.others (λ e. beside (sym mine ∙ q) e)).as_it_was n;
  }
    where
      go : (b : Bool) → (j.connection == c) ≡ b → is_some (session_at c old) ≡ true → is_some (session_at c new) ≡ true
      go true e o = f.own (eqb-true j.connection c e) o ∙ ap not open_now
      go false e o = (f.others (eqb-false j.connection c e)).open_too ∙ o

      beside : list_any (λ (i : Job). i.number == number && i.connection == c) old.jobs ≡ false → j.connection ≢ c
      beside none e =
          let passes = and_from (j.number == number) (j.connection == c) (eq-eqb j.number number is) (eq-eqb j.connection c e) in
          let fails = all_in (λ (i : Job). (i.number == number && i.connection == c) ≡ false) old.jobs j (none_passes (λ (i : Job). i.number == number && i.connection == c) old.jobs none) there in
          absurd (cc)

abbrev fresh : ℕ → State → Session
fresh d old = opened d old.settings.capacity

-- a session is opened
opens : (c d : ℕ) (old : State) (reply : Reply) (new : State)
    → new ≡ tells (lines.Open d) (record old { opened = set.insert old.opened d; sessions = old.sessions ++ opened d old.settings.capacity ∷ [] }) → IsTold c old (entries.Open d) reply new
opens c d old reply new e = record {
  open_too = λ o. (let s = some_at (session_at c old) o in ap is_some (ap (session_at c) e ∙ find_append (is_of c) old.sessions (fresh d old ∷ []) s.0 s.1));
  as_it_was = λ n q. ap (session_at c) e ∙ go q (session_at c old) refl;
}
  where
    go : (d == c) ≡ false → (o : Option Session) → session_at c old ≡ o → find (is_of c) (old.sessions ++ fresh d old ∷ []) ≡ session_at c old
    go q None f = find_last (is_of c) old.sessions (fresh d old) f ∙ ap (λ b. cond (b && true) (Some (fresh d old)) None) q ∙ sym f
    go q (Some s) f = find_append (is_of c) old.sessions (fresh d old ∷ []) s f ∙ sym f

-- ---- which connection and job an entry is of

end_of : (c : ℕ) (old : State) (d : ℕ) (entry : Entry) → IsEndOf d entry → (may_end c entry ≡ (d == c)) × (concerns c entry old ≡ (d == c))
end_of c old d (entries.Gone k fault) e = (ap (λ n. n == c) e, ap (λ n. n == c) e)
end_of c old d (entries.Heard k (Bad place bad)) e = (ap (λ n. n == c) e, ap (λ n. n == c) e)
end_of c old d (entries.Heard k (Whole x)) e = absurd e
end_of c old d other e = absurd e

job_entry : (c : ℕ) (old : State) (entry : Entry) (number : ℕ) → job_in entry ≡ Some number
    → (may_end c entry ≡ false) × (concerns c entry old ≡ list_any (λ (i : Job). i.number == number && i.connection == c) old.jobs)
job_entry c old (entries.Commit k run) number e = (refl, ap (λ n. list_any (λ (i : Job). i.number == n && i.connection == c) old.jobs) (same_Some k number e))
job_entry c old (entries.Decide k) number e = (refl, ap (λ n. list_any (λ (i : Job). i.number == n && i.connection == c) old.jobs) (same_Some k number e))
job_entry c old other number e = absurd (none-some number e)

-- ---- by the effect

module _ (c : ℕ) (old : State) (entry : Entry) (reply : Reply) (new : State) where
  module _ (h : Heard) (t : Session) (from : Hearing old entry h t) where
    passed : is_of from.connection from.session ≡ true
    passed = find_passes (is_of from.connection) old.sessions from.session from.there

    made : Becomes from.session h t
    made = becomes from.session (and_parts (from.session.connection == from.connection) (is_open from.session) passed).1 from.message.xid from.message.body h t from.hears

    its : t.connection ≡ from.connection
    its = made.connection ∙ its_connection from.connection from.session passed

    told_heard : Fares c from.connection old reply new → IsTold c old entry reply new
    told_heard f = told_by c old entry reply new from.connection (ap (λ x. may_end c x && is_end reply) from.is) (ap (λ x. concerns c x old) from.is) f

    -- the session is another
    told_placed : (u : Session) → u.connection ≡ t.connection → is_open u ≡ not (is_end reply) → new.sessions ≡ placed u old.sessions → IsTold c old entry reply new
    told_placed u same now are = told_heard (fares_placed c from.connection old reply new u (same ∙ its) now are)

  ends : (t : Session) (end : End) → Ending old entry t → reply ≡ Ended end → new.sessions ≡ placed t old.sessions → IsTold c old entry reply new
  ends t end (inl (d, s, is, found, same)) r are =
      let by = end_of c old d entry is in
      told_by c old entry reply new d (ap (λ b. b && is_end reply) by.0) by.1
      (fares_placed c d old reply new t (ap (λ (y : Session). y.connection) same ∙ its_connection d s (find_passes (is_of d) old.sessions s found)) (ap is_open same ∙ sym (ap (λ a. not (is_end a)) r)) are)
  ends t end (inr (inl (u, dpid, ports, from, same))) r are =
      told_placed (heard.Features dpid ports) u from t (ap (λ (y : Session). y.connection) same) (ap is_open same ∙ sym (ap (λ a. not (is_end a)) r)) are
  ends t end (inr (inr (last, from))) r are = told_placed (heard.Ended last) t from t refl ((made (heard.Ended last) t from).open_now ∙ sym (ap (λ a. not (is_end a)) r)) are

  is_told : IsSound old → Effect old entry reply new → IsTold c old entry reply new
  is_told sound (RunsOut (r, e)) = told_same c old entry reply new (ap tells_end r) (ap (λ (n : State). n.sessions) e)
  is_told sound (Rests p e) = told_same c old entry reply new p.1 (ap (λ (n : State). n.sessions) e)
  is_told sound (Misses number is r e) = told_same c old entry reply new (ap tells_end r) (ap (λ (n : State). n.sessions) e)
  is_told sound (Outdates number is differs r more e) = told_same c old entry reply new (ap tells_end r) (ap (λ (n : State). n.sessions) e)
  is_told sound (Tells p more e) = told_same c old entry reply new p.1 (ap (λ (n : State). n.sessions) e)
  is_told sound (Reports is r e) = told_same c old entry reply new (ap tells_end r) (ap (λ (n : State). n.sessions) e)
  is_told sound (OpensSession d is new_one few r e) = subst (λ x. IsTold c old x reply new) (sym is) (opens c d old reply new e)
  is_told sound (TurnsAway d is new_one full r e) =
      told_stays c old entry reply new (ap (λ x. may_end c x && is_end reply) is) (stays_same c old new (ap (λ (n : State). n.sessions) e))
  is_told sound (Empties d s t bytes is found out r e) =
      told_by c old entry reply new d (ap (λ x. may_end c x && is_end reply) is ∙ sym (and_right (d == c) (is_end reply) (ap is_end r))) (ap (λ x. concerns c x old) is)
      (takes c d old reply new sound s t bytes found out r e)
  is_told sound (Moves h t from still p more e) =
      told_placed h t from t refl ((made h t from).open_now ∙ ap not (moves_open h still) ∙ sym (ap not (unended c old entry reply new p.1))) (ap (λ (n : State). n.sessions) e)
  is_told sound (Quiets kind code t from p e) =
      let h = heard.Refused kind code true in
      told_placed h t from t refl ((made h t from).open_now ∙ sym (ap not (unended c old entry reply new p.1))) (ap (λ (n : State). n.sessions) e)
  is_told sound (Ends t end ending r more e) = ends t end ending r (ap (λ (n : State). n.sessions) e)
  is_told sound (Advances u may free r a) = told_open c old entry reply new (ap tells_end r) (stays_reached c old new (updated u old) refl refl a)
  is_told sound (Renews p is r a) = told_open c old entry reply new (ap tells_end r) (stays_reached c old new (renewed p old) refl refl a)
  is_told sound (Accepts t dpid ports from r j) =
      let h = heard.Features dpid ports in
      told_heard h t from (joins c from.connection old reply new t (its h t from) (made h t from).open_now dpid ports j (ap is_end r))
  is_told sound (Overflows t buffer frame k m p many r e) =
      told_open c old entry reply new (ap tells_end r) (stays_along c old new m (stays_taught c (switch_of t) k old m p.teaches) (ap (λ (n : State). n.sessions) e) (ap (λ (n : State). n.states) e))
  is_told sound (Waits t buffer frame k m p few r e) =
      told_open c old entry reply new (ap tells_end r) (stays_along c old new m (stays_taught c (switch_of t) k old m p.teaches) (ap (λ (n : State). n.sessions) e) (ap (λ (n : State). n.states) e))
  is_told sound (Spends j run r e) = told_same c old entry reply new (ap tells_end r) (ap (λ (n : State). n.sessions) e)
  is_told sound (AnswersJob j items cells d run a) =
      let by = job_entry c old entry run.number run.is in
      told_job c old entry reply new run.number j run.there run.of_number by.0 by.1 (ap is_end a.replies) (answers c old reply new j items cells d a)

pub ends_are_told : EndsAreTold
ends_are_told old entry reply new h steps c s found = (is_told c old entry reply new h (effect_of old reply new entry steps)).open_too (ap is_some found)

pub others_stay : OthersStay
others_stay old entry reply new h steps same c beside = (is_told c old entry reply new h (effect_of old reply new entry steps)).as_it_was same beside

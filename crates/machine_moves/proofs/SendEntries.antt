-- What each entry does to sessions and jobs keeps it so that all that is sent can be offered.
use Rattle.std.proofs.Common.{◌≡◌, ℕ, ◌^◌, ◌<◌, ◌≤◌, Bool, true, false, List, [], ◌∷◌, ◌++◌, refl, sym, ap, ◌∙◌, subst, inl, inr}
use Rattle.std.specs.Prelude.{◌==◌, not, find, map, if◌then◌else◌, Contains, Some}
use Rattle.std.specs.FinSet as set
use Rattle.std.specs.List.{AllByRecursion}
use Rattle.std.proofs.lemmas.Bool.{cond_both}
use Rattle.std.proofs.lemmas.Option.{same_Some}
use Rattle.maple_base.specs.declared.cells.Cell.{Cell}
use Rattle.maple_base.specs.declared.cells.Port.{Port}
use Rattle.maple_base.specs.declared.cells.Value.{Value}
use Rattle.maple_base.specs.declared.decision.Decision.{Decision}
use Rattle.maple_base.specs.declared.decision.Outcome.{Outcome}
use Rattle.maple_base.specs.declared.decision.Outcome.TheVariants.{Decided, Spent}
use Rattle.maple_base.specs.declared.items.Item.{Item}
use Rattle.maple_base.specs.Decisions.{actions_at}
use Rattle.maple_base.specs.RuleLists.{Rules}
use Rattle.maple_base.specs.declared.key.Key.{Key}
use Rattle.env_cells.specs.declared.updates.Update.TheVariants.{Host}
use Rattle.report_text.specs.declared.line.Learnt.{Learnt}
use Rattle.report_text.specs.declared.line.Learnt.TheVariants.{Learned}
use Rattle.report_text.specs.declared.line.Line.TheVariants as lines
use Rattle.switch_session.specs.declared.told.Phase.TheVariants as phases
use Rattle.switch_session.specs.Calls.{opened, TakesOut}
use Rattle.switch_session.specs.Parts.{is_nil, packet_out}
use Rattle.switch_session.specs.Sessions.{put}
use Rattle.switch_traces.specs.Lists.{AreRulesOf}
use Rattle.machine_steps.specs.declared.job.Job.{Job}
use Rattle.machine_steps.specs.declared.reply.Reply.{Reply}
use Rattle.machine_steps.specs.Machine.{Session, State, is_live, is_open, is_of, session_at, with_session, traces_of, put_traces, tells}
use Rattle.machine_steps.specs.Effects.{shuts}
use Rattle.machine_steps.specs.Steps.{updated, Reaches, Joins, Teaches, TeachesBy, entry_of, teaches, opens_job, kept_at, emptied, next_trace, sends, Keeps, Concludes, close_job}
use Rattle.machine_steps.specs.Sound.{IsServed}
use Rattle.machine_steps.proofs.Sound.Answering.{IsNext}
use Rattle.machine_steps.proofs.Sound.Kept.{traces_put}
use Rattle.machine_steps.proofs.Sound.Zipped.{all_in, all_push, all_filter, find_all}
use Rattle.machine_moves.proofs.Current.{answer_offered}
use Rattle.machine_moves.proofs.Parts.{CanBeSent}
use Rattle.machine_moves.proofs.SendSessions.{LowerLaws, Sendable, Sends, opened_sends, put_sends, emptied_sends, heads_sends, aims_all, accepts_sends}

-- sessions and jobs, of switches with room for so many rules: a job's buffer has 32 bits
pub record Offer (n : ℕ) (ss : List Session) (js : List Job) : Type 0 where
  pub sessions : AllByRecursion (Sends n) ss
  pub buffers : AllByRecursion (λ (j : Job). j.buffer < 2 ^ 32) js

abbrev pub Offers : ℕ → State → Type 0
Offers n m = Offer n m.sessions m.jobs

module _ (laws : LowerLaws) (n : ℕ) (room : n ≤ 65535) where
  -- ---- a session is another

  all_with : (t : Session) → Sends n t → (ss : List Session) → AllByRecursion (Sends n) ss → AllByRecursion (Sends n) (map (λ (x : Session). if x.connection == t.connection then t else x) ss)
  all_with t f [] h = tt
  all_with t f (s ∷ ss) h = (cond_both (s.connection == t.connection) t s (Sends n) (λ e. f) (λ e. h.0), all_with t f ss h.1)

  pub with_offers : (m : State) (t : Session) → Offers n m → Sends n t → Offers n (with_session t m)
  with_offers m t o f = record { sessions = all_with t f m.sessions o.sessions; buffers = o.buffers }

  pub shuts_offers : (m : State) (t : Session) → Offers n m → Sends n t → Offers n (shuts t m)
  shuts_offers m t o f = record { sessions = all_with t f m.sessions o.sessions; buffers = all_filter (λ (j : Job). j.buffer < 2 ^ 32) (λ (j : Job). not (j.connection == t.connection)) m.jobs o.buffers }

  pub found_sends : (m : State) (p : Session → Bool) (s : Session) → Offers n m → find p m.sessions ≡ Some s → Sends n s
  found_sends m p s o found = find_all (Sends n) p m.sessions s o.sessions found

  -- ---- a state is reached

  pub reaches_offers : (m next new : State) → Reaches m next new → Sendable n new.learned → Offers n next → Offers n new
  reaches_offers m next new r can o =
      subst (Offers n) (sym r.now_is)
      (record { sessions = aims_all laws n room next.learned next.sessions r.sessions (subst (λ (x : State). Sendable n x.learned) r.now_is can) o.sessions r.aims; buffers = o.buffers })

  module _ (old : State) (o : Offers n old) (reply : Reply) (new : State) where
    -- ---- connections

    pub opens_offers : (c : ℕ) → old.settings.capacity ≡ n
        → new ≡ tells (lines.Open c) (record old { opened = set.insert old.opened c; sessions = old.sessions ++ opened c old.settings.capacity ∷ [] }) → Offers n new
    opens_offers c capacity e =
        subst (Offers n) (sym e)
        (record { sessions = all_push (Sends n) old.sessions _ o.sessions (subst (λ k. Sends n (opened c k)) (sym capacity) (opened_sends laws n room c)); buffers = o.buffers })

    pub takes_offers : (c : ℕ) (s t : Session) (bytes : List ℕ) → kept_at c old ≡ Some s → TakesOut s bytes t → new ≡ emptied (is_open s) t old → Offers n new
    takes_offers c s t bytes found out e =
        subst (Offers n) (sym e) (go (is_open s) (subst (Sends n) (sym out.now_is) (emptied_sends laws n room s (found_sends old (λ (x : Session). x.connection == c) s o found))))
      where
        go : (b : Bool) → Sends n t → Offers n (emptied b t old)
        go true f = with_offers old t o f
        go false f = record { sessions = all_filter (Sends n) (λ (x : Session). not (x.connection == t.connection)) old.sessions o.sessions; buffers = o.buffers }

    -- ---- the switch's features

    pub joins_offers : (can : Sendable n new.learned) (t : Session) (dpid : ℕ) (ports : List Port) → t.phase ≡ phases.Second → Sends n t → Joins t dpid ports old new → Offers n new
    joins_offers can t dpid ports second f j =
        let now : Sendable n j.reached.learned = subst (λ (x : State). Sendable n x.learned) j.now_is can in
        let reached = reaches_offers old _ j.reached j.reaches now (with_offers old t o f) in
        subst (Offers n) (sym j.now_is) (with_offers j.reached j.accepted reached (accepts_sends laws n room t j.rules j.accepted second f (now dpid j.rules j.are_rules) j.accepts))

    -- ---- a packet

    pub taught_offers : (switch : ℕ) (k : Key) (taught : State) → Sendable n taught.learned → Teaches switch k old taught → Offers n taught
    taught_offers switch k taught can h = go (teaches switch k old) h
      where
        go : (b : Bool) → TeachesBy b (Host k.dl_src (entry_of switch k)) old taught → Offers n taught
        go true (inl t) = reaches_offers old (updated (Host k.dl_src (entry_of switch k)) old) taught t.1 can o
        go true (inr t) = subst (Offers n) (sym t.1) o
        go false e = subst (Offers n) (sym e) o

    -- one more waits
    pub waits_offers : (taught : State) (j : Job) → j.buffer < 2 ^ 32 → Offers n taught → new ≡ opens_job j taught → Offers n new
    waits_offers taught j low a e = subst (Offers n) (sym e) (record { sessions = a.sessions; buffers = all_push (λ (j : Job). j.buffer < 2 ^ 32) taught.jobs j a.buffers low })

    -- ---- an answer

    module _ (j : Job) (waits : Contains old.jobs j) (served : IsServed old j) (items : List Item) (cells : List (Cell × Value)) where
      fewer_offers : (kept : State) → Offers n kept → Offers n (close_job j kept)
      fewer_offers kept a = record { sessions = a.sessions; buffers = all_filter (λ (i : Job). i.buffer < 2 ^ 32) (λ (i : Job). not (i.number == j.number)) kept.jobs a.buffers }

      module _ (d : Decision) (next : IsNext old j items cells d) (s : Session) (there : session_at j.connection old ≡ Some s) where
        abbrev sent : Session
        sent = sends j d s

        live : is_live s ≡ true
        live = subst (λ x. is_live x ≡ true) (same_Some served.session s (sym served.there ∙ there)) served.live

        sent_sends : Sends n sent
        sent_sends = go (is_nil (actions_at d j.switch))
          where
            go : (b : Bool) → Sends n (if b then s else put (packet_out j.buffer j.key.in_port (actions_at d j.switch) j.frame) s)
            go true = found_sends old (is_of j.connection) s o there
            go false =
                put_sends laws n room s (packet_out j.buffer j.key.in_port (actions_at d j.switch) j.frame)
                (answer_offered laws old j items cells d served (all_in (λ (i : Job). i.buffer < 2 ^ 32) old.jobs j o.buffers waits) next)
                (found_sends old (is_of j.connection) s o there)

        sent_live : is_live sent ≡ true
        sent_live = go (is_nil (actions_at d j.switch))
          where
            go : (b : Bool) → is_live (if b then s else put (packet_out j.buffer j.key.in_port (actions_at d j.switch) j.frame) s) ≡ true
            go true = live
            go false = live

        keeps_offers : (l : Learnt) (kept : State) → Sendable n kept.learned → Keeps l j (next_trace items cells d old) sent old kept → Offers n kept
        keeps_offers Learned kept can (t, heads, is) =
            let all = traces_of j.switch old ++ next_trace items cells d old ∷ [] in
            let now : Sendable n (put_traces j.switch all old.learned) = subst (λ (x : State). Sendable n x.learned) is can in
            let own : (X : Rules) → AreRulesOf all X → CanBeSent n X = λ X are. now j.switch X (subst (λ rs. AreRulesOf rs X) (sym (traces_put j.switch all old.learned)) are) in
            subst (Offers n) (sym is) (with_offers old t o (heads_sends laws n room all sent t sent_sends sent_live own heads))
        keeps_offers other kept can is = subst (Offers n) (sym is) (with_offers old sent o sent_sends)

        answers_offers : Sendable n new.learned → (a : Learnt) (kept : State) → Keeps a j (next_trace items cells d old) sent old kept → new.learned ≡ kept.learned → Offers n (close_job j kept)
        answers_offers can a kept keeps e = fewer_offers kept (keeps_offers a kept (subst (Sendable n) e can) keeps)

      pub concludes_offers : Sendable n new.learned → (r : Outcome) → ((d : Decision) → r ≡ Decided d → IsNext old j items cells d) → Concludes j items cells r old reply new → Offers n new
      concludes_offers can Spent next a = subst (Offers n) (sym a.1) (fewer_offers old o)
      concludes_offers can (Decided d) next a =
          subst (Offers n) (sym a.now_is) (answers_offers d (next d refl) a.session a.there can a.learns a.kept a.keeps (ap (λ (m : State). m.learned) a.now_is))

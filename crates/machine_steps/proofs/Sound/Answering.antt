-- What the answer to a packet leaves sound.
use Rattle.std.proofs.Common.{◌≡◌, ℕ, ◌+◌, ◌≤◌, Bool, true, false, cond, List, [], ◌∷◌, ◌++◌, refl, sym, ap, ◌∙◌, subst, inl, inr, arith}
use Rattle.std.specs.Prelude.{nat_lt, is_some, if◌then◌else◌, Option, Some, None, Contains}
use Rattle.std.specs.List.{AllByRecursion}
use Rattle.std.proofs.lemmas.Bool.Decides.{nat_tests}
use Rattle.std.proofs.lemmas.Option.{same_Some}
use Rattle.maple_base.specs.declared.cells.Cell.{Cell}
use Rattle.maple_base.specs.declared.cells.Value.{Value}
use Rattle.maple_base.specs.declared.decision.Decision.{Decision}
use Rattle.maple_base.specs.declared.decision.Outcome.{Outcome}
use Rattle.maple_base.specs.declared.decision.Outcome.TheVariants.{Decided, Spent}
use Rattle.maple_base.specs.declared.items.Item.{Item}
use Rattle.maple_base.specs.Decisions.{actions_at}
use Rattle.of10_codec.specs.declared.message.Message.{Message}
use Rattle.env_cells.specs.Environment.{knows}
use Rattle.report_text.specs.declared.line.Learnt.{Learnt}
use Rattle.report_text.specs.declared.line.Learnt.TheVariants.{Learned, Known, Levels, Rows, Quiet}
use Rattle.trace_record.specs.Runs.{Recorded}
use Rattle.trace_tree.specs.declared.node.Trace.{Trace}
use Rattle.trace_tree.specs.Growth.{found, scratch}
use Rattle.priority_plan.specs.Rules.{levels_of, rules_needed}
use Rattle.update_plan.specs.Batches.{IsTarget}
use Rattle.switch_session.specs.Parts.{is_nil, packet_out}
use Rattle.switch_session.specs.Sessions.{put, heading, aimed}
use Rattle.switch_traces.specs.Learning.{judged}
use Rattle.switch_traces.specs.Lists.{AreRulesOf, AreFit}
use Rattle.machine_steps.specs.declared.reply.Reply.{Reply}
use Rattle.machine_steps.specs.Machine.{Job, Session, State, is_live, is_of, session_at, with_session, with_traces, traces_of}
use Rattle.machine_steps.specs.Steps.{switch_of, HeadsFor, next_trace, learnt, sends, Keeps, Concludes, Commits}
use Rattle.machine_steps.specs.Admitting.{IsOfHistory}
use Rattle.machine_steps.specs.Running.{IsRunNow}
use Rattle.machine_steps.specs.Sound.{IsCurrent, AreLearned, HeadsRight, IsInOrder, IsServed, IsSound}
use Rattle.machine_steps.proofs.Learning.{counted, all_more, fit_more}
use Rattle.machine_steps.proofs.Running.{current_runs_are_now, current_next}
use Rattle.machine_steps.proofs.Sound.Zipped.{all_in, find_all}
use Rattle.machine_steps.proofs.Sound.Alike.{all_current, fit_in}
use Rattle.machine_steps.proofs.Sound.Following.{Stays, same_switch, stays_in_phase}
use Rattle.machine_steps.proofs.Sound.Aims.{aimed_so, aimed_rules}
use Rattle.machine_steps.proofs.Sound.Kept.{LowerLaws, listed_put}
use Rattle.machine_steps.proofs.Sound.Moves.{IsOnward, heads_onward, order_onward}
use Rattle.machine_steps.proofs.Sound.Replaced.{retraced, traces_now, sound_fewer, sound_retraced, sound_told, sound_with}

-- ---- what is learned

-- no trace was found, the rules of all keep to the settings, and the session isn't quiet
record IsLearned (m : State) (quiet : Bool) (rs : List Trace) (unfound : Option Trace) : Type 0 where
  pub unfound_is : unfound ≡ None
  pub levels : levels_of (scratch rs) ≤ m.settings.levels
  pub rules : rules_needed (scratch rs) ≤ m.settings.capacity
  pub loud : quiet ≡ false

judged_learned : (m : State) (quiet : Bool) (rs : List Trace) → Learned ≡ judged m.settings.levels m.settings.capacity quiet rs → IsLearned m quiet rs None
judged_learned m quiet rs e = go (nat_lt m.settings.levels (levels_of (scratch rs))) (nat_lt m.settings.capacity (rules_needed (scratch rs))) quiet refl refl e
  where
    go : (a b q : Bool) → nat_lt m.settings.levels (levels_of (scratch rs)) ≡ a → nat_lt m.settings.capacity (rules_needed (scratch rs)) ≡ b
        → Learned ≡ cond a (Levels (levels_of (scratch rs)) m.settings.levels) (cond b (Rows (rules_needed (scratch rs)) m.settings.capacity) (cond q Quiet Learned)) → IsLearned m q rs None
    go true b q f g e = absurd (cc)
    go false true q f g e = absurd (cc)
    go false false true f g e = absurd (cc)
    go false false false f g e = record { unfound_is = refl; levels = grind (arith, nat_tests, f); rules = grind (arith, nat_tests, g); loud = refl }

learned_so : (m : State) (quiet : Bool) (rs : List Trace) (o : Option Trace) → Learned ≡ cond (is_some o) Known (judged m.settings.levels m.settings.capacity quiet rs) → IsLearned m quiet rs o
learned_so m quiet rs None e = judged_learned m quiet rs e
learned_so m quiet rs (Some x) e = absurd (cc)

-- ---- the packet is sent back

sent_onward : (s : Session) (message : Message) → s.prepared ≡ None → (b : Bool) → IsOnward s (if b then s else put message s)
sent_onward s message idle true = record { connection = refl; capacity = refl; phase = refl; dpid = refl; quiet = refl; heading = refl; idle = idle }
sent_onward s message idle false = record { connection = refl; capacity = refl; phase = refl; dpid = refl; quiet = refl; heading = refl; idle = idle }

-- ---- an answer

-- what is asked for the job and decided is a trace of now, and of the job's key
abbrev pub IsNext : State → Job → List Item → List (Cell × Value) → Decision → Type 0
IsNext m j items cells d = (current : IsCurrent (counted m) j.switch (next_trace items cells d m)) × (current.key ≡ j.key)

module _ (laws : LowerLaws) (old : State) (h : IsSound old) (j : Job) (waits : Contains old.jobs j) (items : List Item) (cells : List (Cell × Value)) where
  pub served : IsServed old j
  served = all_in (IsServed old) old.jobs j h.jobs waits

  module _ (d : Decision) (next : IsNext old j items cells d) (s : Session) (there : session_at j.connection old ≡ Some s) where
    abbrev r : Trace
    r = next_trace items cells d old

    abbrev all : List Trace
    all = traces_of j.switch old ++ r ∷ []

    abbrev sent : Session
    sent = sends j d s

    its_session : served.session ≡ s
    its_session = same_Some served.session s (sym served.there ∙ there)

    live : is_live s ≡ true
    live = subst (λ x. is_live x ≡ true) its_session served.live

    switch_is : switch_of s ≡ j.switch
    switch_is = sym (served.switch ∙ ap switch_of its_session)

    order : IsInOrder old s
    order = find_all (IsInOrder old) (is_of j.connection) old.sessions s h.sessions there

    onward : IsOnward s sent
    onward = sent_onward s (packet_out j.buffer j.key.in_port (actions_at d j.switch) j.frame) order.idle (is_nil (actions_at d j.switch))

    right : HeadsRight old sent
    right = heads_onward old s sent onward (order.live live)

    -- ---- the trace is kept

    module _ (is : IsLearned old s.quiet all (found (traces_of j.switch old) j.key)) (t : Session) (heads : HeadsFor all sent t) where
      abbrev u : Session
      u = aimed heads.plan sent

      abbrev after : State
      after = retraced old (is_of j.connection) s u all (old.trace_count + 1) old.lines

      same_dpid : u.dpid ≡ s.dpid
      same_dpid = (aimed_so heads.plan sent).dpid ∙ onward.dpid

      same : switch_of u ≡ switch_of s
      same = same_switch s u same_dpid

      stays : Stays s u
      stays = let a = aimed_so heads.plan sent in stays_in_phase s u (a.connection ∙ onward.connection) (a.phase ∙ onward.phase) same_dpid

      unfound : found (traces_of j.switch old) next.0.key ≡ None
      unfound = ap (found (traces_of j.switch old)) next.1 ∙ is.unfound_is

      fit : AreFit old.settings.capacity all
      fit = fit_more laws.taking old h j.switch r next.0 unfound is.levels is.rules

      learned : AreLearned after (record { switch = switch_of u; traces = all })
      learned = record {
        current = all_current (counted old) after (record { settings = refl; policy = refl; count = omega arith }) refl (switch_of u) all
            (subst (λ w. AllByRecursion (IsCurrent (counted old) w) all) (sym (same ∙ switch_is)) (all_more laws.taking old h j.switch r next.0 unfound));
        apart = laws.only all fit.admitted;
        fit = fit;
        levels = is.levels;
      }

      target : IsTarget sent.capacity (heading sent)
      target =
          (laws.list sent.capacity (traces_of (switch_of sent) old) (heading sent)
          (subst (λ c. AreFit c (traces_of (switch_of sent) old)) (sym right.capacity) (fit_in laws.nil old old.learned h.learned (switch_of sent))) right.rules).target

      rules_all : AreRulesOf all (heading u)
      rules_all =
          aimed_rules laws.settled all sent heads.rules heads.plan target (laws.list sent.capacity all heads.rules (subst (λ c. AreFit c all) (sym right.capacity) fit) heads.are_rules).target
          heads.is_plan right.rules.facts_order right.rules.barriers_order heads.are_rules

      heads_right : HeadsRight after u
      heads_right =
          let a = aimed_so heads.plan sent in
          let was = order.live live in
          record {
            rules = subst (λ rs. AreRulesOf rs (heading u)) (sym (traces_now old (is_of j.connection) s u all (old.trace_count + 1) old.lines)) rules_all;
            quiet = λ q. (let f = sym (a.quiet ∙ onward.quiet ∙ is.loud) ∙ q in absurd (cc));
            number = same_dpid ∙ was.number ∙ ap Some (sym same);
            known = ap (knows old.scene) same ∙ was.known;
            listed = listed_put (switch_of u) all old.learned;
            capacity = a.capacity ∙ right.capacity;
          }

      after_sound : IsSound after
      after_sound = sound_retraced old (is_of j.connection) s u all (old.trace_count + 1) old.lines h there live stays (omega arith) learned heads_right (aimed_so heads.plan sent).idle

      -- the state as it is said
      abbrev as_said : ℕ → Session → State
      as_said switch v = record (with_traces switch all (with_session v old)) { trace_count = old.trace_count + 1 }

      learned_sound : (kept : State) → kept ≡ as_said j.switch t → IsSound kept
      learned_sound kept e = subst IsSound (sym (e ∙ ap (as_said j.switch) heads.now_is ∙ ap (λ w. as_said w u) (sym (same ∙ switch_is)))) after_sound

    -- ---- it is kept or not

    kept_sound : (l : Learnt) → l ≡ learnt old s.quiet (traces_of j.switch old) j.key r → (kept : State) → Keeps l j r sent old kept → IsSound kept
    kept_sound Learned e kept (t, heads, is) = learned_sound (learned_so old s.quiet all (found (traces_of j.switch old) j.key) e) t heads kept is
    kept_sound other e kept is =
        subst IsSound (sym is)
        (sound_with old (is_of j.connection) s sent old.lines h there (stays_in_phase s sent onward.connection onward.phase onward.dpid) (order_onward old s sent onward live))

  -- a run ends the job
  pub concludes_sound : (o : Outcome) → ((d : Decision) → o ≡ Decided d → IsNext old j items cells d) → (reply : Reply) (new : State) → Concludes j items cells o old reply new → IsSound new
  concludes_sound Spent next reply new a = subst IsSound (sym a.1) (sound_fewer old _ _ h)
  concludes_sound (Decided d) next reply new a = subst IsSound (sym a.now_is) (sound_fewer a.kept _ _ (kept_sound d (next d refl) a.session a.there a.learns a.exactly a.kept a.keeps))

-- a run that was recorded outside
pub sound_commit : LowerLaws → (number : ℕ) (run : Recorded) (old : State) (reply : Reply) (new : State) → IsSound old → IsOfHistory run old → Commits number run old reply new → IsSound new
sound_commit laws number run old reply new h of (inl (none_such, r, e)) = subst IsSound (sym e) h
sound_commit laws number run old reply new h of (inr (inl (j, is, other, r, e))) = subst IsSound (sym e) (sound_told old _ h)
sound_commit laws number run old reply new h of (inr (inr (inl (j, c, recorded, current, is, n, stale, r, e)))) = subst IsSound (sym e) (sound_told old _ h)
sound_commit laws number run old reply new h of (inr (inr (inr (inl (j, is, n, fresh, concludes))))) =
    concludes_sound laws old h j is.there run.items run.cells run.outcome (λ d e. (current_next old j.switch j.key run now d e, refl)) reply new concludes
  where
    now : IsRunNow old j.switch j.key run
    now = let a = current_runs_are_now laws.same old run of n fresh in record { law = a.law; policy = a.policy; budget = a.budget; switch_is = sym is.switch; key_is = sym is.key; cells = a.cells }
sound_commit laws number run old reply new h of (inr (inr (inr (inr e)))) = subst IsSound (sym e.1) h

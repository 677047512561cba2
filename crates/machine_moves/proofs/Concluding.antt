-- What an answer makes of the session of its packet, and of any other.
use Rattle.std.proofs.Common.{◌≡◌, ℕ, Bool, true, false, List, [], ◌∷◌, ◌++◌, refl, sym, ap, ◌∙◌, subst, inl, inr, ⊎_elim}
use Rattle.std.specs.Prelude.{◌==◌, not, nat_lt, if◌then◌else◌, is_some, Contains, Option, Some, None}
use Rattle.std.proofs.lemmas.Bool.{and_parts, cases_eq}
use Rattle.std.proofs.lemmas.Option.{same_Some}
use Rattle.maple_base.specs.declared.cells.Cell.{Cell}
use Rattle.maple_base.specs.declared.cells.Value.{Value}
use Rattle.maple_base.specs.declared.decision.Decision.{Decision}
use Rattle.maple_base.specs.declared.decision.Outcome.{Outcome}
use Rattle.maple_base.specs.declared.decision.Outcome.TheVariants.{Decided, Spent as SpentRun}
use Rattle.maple_base.specs.declared.items.Item.{Item}
use Rattle.maple_base.specs.declared.key.Key.{Key}
use Rattle.maple_base.specs.Decisions.{actions_at}
use Rattle.priority_plan.specs.Rules.{levels_of, rules_needed}
use Rattle.report_text.specs.declared.line.Learnt.{Learnt}
use Rattle.report_text.specs.declared.line.Learnt.TheVariants.{Learned, Known, Levels, Rows, Quiet}
use Rattle.switch_session.specs.Parts.{is_nil, packet_out}
use Rattle.switch_session.specs.Sessions.{put}
use Rattle.switch_traces.specs.Learning.{judged}
use Rattle.switch_traces.specs.Traces.{Learnings}
use Rattle.trace_tree.specs.declared.node.Trace.{Trace}
use Rattle.trace_tree.specs.Growth.{found, scratch}
use Rattle.machine_steps.specs.declared.job.Job.{Job}
use Rattle.machine_steps.specs.declared.reply.Reply.{Reply}
use Rattle.machine_steps.specs.Machine.{Session, State, has_ended, is_live, is_open, is_of, session_at, traces_in, traces_of}
use Rattle.machine_steps.specs.Steps.{switch_of, HeadsFor, next_trace, learnt, sends, Keeps, Concludes}
use Rattle.machine_steps.specs.Sound.{IsServed, IsSound}
use Rattle.machine_steps.proofs.Sound.Zipped.{all_in, find_passes}
use Rattle.machine_steps.proofs.Sound.Aims.{aimed_so}
use Rattle.machine_steps.proofs.Sound.Kept.{traces_put}
use Rattle.machine_moves.specs.Moves.{Puts, PutsAndIsLed}
use Rattle.machine_moves.proofs.Found.{placed, its_connection}
use Rattle.machine_moves.proofs.Following.{follows_same}
use Rattle.machine_moves.proofs.Turning.{Turned, puts_none, only_led, turned_follows, turned_placed, follows_placed}

-- what is learned is learned for a session that isn't quiet
judged_loud : (limit capacity : ℕ) (quiet : Bool) (rs : List Trace) → Learned ≡ judged limit capacity quiet rs → quiet ≡ false
judged_loud limit capacity quiet rs e = go (nat_lt limit (levels_of (scratch rs))) (nat_lt capacity (rules_needed (scratch rs))) quiet e
  where
    go : (a b q : Bool) → Learned ≡ (if a then Levels (levels_of (scratch rs)) limit else (if b then Rows (rules_needed (scratch rs)) capacity else (if q then Quiet else Learned))) → q ≡ false
    go true b q f = absurd (cc)
    go false true q f = absurd (cc)
    go false false true f = absurd (cc)
    go false false false f = refl

learned_loud : (m : State) (quiet : Bool) (rs : List Trace) (k : Key) (r : Trace) → Learned ≡ learnt m quiet rs k r → quiet ≡ false
learned_loud m quiet rs k r e = go (found rs k) e
  where
    go : (o : Option Trace) → Learned ≡ (if is_some o then Known else judged m.settings.levels m.settings.capacity quiet (rs ++ r ∷ [])) → quiet ≡ false
    go (Some x) f = absurd (cc)
    go None f = judged_loud m.settings.levels m.settings.capacity quiet (rs ++ r ∷ []) f

-- the packet is sent back, or nothing is
sent_puts : (j : Job) (d : Decision) (s : Session) → Puts s (sends j d s)
sent_puts j d s = go (is_nil (actions_at d j.switch))
  where
    go : (b : Bool) → Puts s (if b then s else put (packet_out j.buffer j.key.in_port (actions_at d j.switch) j.frame) s)
    go true = puts_none s
    go false = record { messages = packet_out j.buffer j.key.in_port (actions_at d j.switch) j.frame ∷ []; others = (record { no_change = refl; no_barrier = refl }, tt); now_is = refl }

module _ (N : Session → Type 0) (old : State) (h : IsSound old) (c : ℕ) (j : Job) (waits : Contains old.jobs j) (reply : Reply) (new : State) where
  abbrev Moved : Type 0
  Moved = Turned N c old new (PutsAndIsLed new)

  served : IsServed old j
  served = all_in (IsServed old) old.jobs j h.jobs waits

  module _ (s : Session) (there : session_at j.connection old ≡ Some s) where
    same : served.session ≡ s
    same = same_Some served.session s (sym served.there ∙ there)

    its : s.connection ≡ j.connection
    its = its_connection j.connection s (find_passes (is_of j.connection) old.sessions s there)

    opened : is_open s ≡ true
    opened = (and_parts (s.connection == j.connection) (is_open s) (find_passes (is_of j.connection) old.sessions s there)).1

    becomes : (t : Session) → t.connection ≡ s.connection → t.phase ≡ s.phase → new.sessions ≡ placed t old.sessions → PutsAndIsLed new s t → Moved
    becomes t at phase are moves =
        ⊎_elim
        (λ e. turned_placed N c old new (PutsAndIsLed new) s t (ap (λ k. session_at k old) (sym e) ∙ there) (at ∙ its ∙ e) (ap (λ q. not (has_ended q)) phase ∙ opened) are moves)
        (λ o. turned_follows N c old new (PutsAndIsLed new) (only_led new) (follows_placed c t old new (λ e. o (sym its ∙ sym at ∙ e)) are))
        (cases_eq j.connection c)

    module _ (d : Decision) (r : Trace) where
      abbrev sent : Session
      sent = sends j d s

      puts : Puts s sent
      puts = sent_puts j d s

      same_switch : switch_of sent ≡ j.switch
      same_switch = ap switch_of puts.now_is ∙ ap switch_of (sym same) ∙ sym served.switch

      answered : (l : Learnt) → l ≡ learnt old s.quiet (traces_of j.switch old) j.key r → (kept : State) → Keeps l j r sent old kept → new.sessions ≡ kept.sessions → new.learned ≡ kept.learned → Moved
      answered Learned e kept (t, heads, is) sessions learned =
          let a = aimed_so heads.plan sent in
          let all = traces_of j.switch old ++ r ∷ [] in
          let now : traces_of (switch_of sent) new ≡ all = ap (λ (ls : List Learnings). traces_in ls (switch_of sent)) (learned ∙ ap (λ (n : State). n.learned) is) ∙ ap (traces_in _) same_switch ∙ traces_put j.switch all old.learned in
          becomes t (ap (λ (y : Session). y.connection) heads.now_is ∙ a.connection ∙ ap (λ (y : Session). y.connection) puts.now_is)
          (ap (λ (y : Session). y.phase) heads.now_is ∙ a.phase ∙ ap (λ (y : Session). y.phase) puts.now_is)
          (sessions ∙ ap (λ (n : State). n.sessions) is)
          (record {
            between = sent;
            puts = puts;
            led = inr (record {
              live = ap is_live puts.now_is ∙ subst (λ y. is_live y ≡ true) same served.live;
              noisy = ap (λ (y : Session). y.quiet) puts.now_is ∙ learned_loud old s.quiet (traces_of j.switch old) j.key r e;
              heads = subst (λ rs. HeadsFor rs sent t) (sym now) heads;
            });
          })
      answered other e kept is sessions learned =
          becomes sent (ap (λ (y : Session). y.connection) puts.now_is) (ap (λ (y : Session). y.phase) puts.now_is) (sessions ∙ ap (λ (n : State). n.sessions) is) (record { between = sent; puts = puts; led = inl refl })

  -- a run ends the job
  pub concludes_moves : (items : List Item) (cells : List (Cell × Value)) (o : Outcome) → Concludes j items cells o old reply new → Moved
  concludes_moves items cells SpentRun a = turned_follows N c old new (PutsAndIsLed new) (only_led new) (follows_same c old new (ap (λ (n : State). n.sessions) a.1))
  concludes_moves items cells (Decided d) a =
      answered a.session a.there d (next_trace items cells d old) a.learns a.exactly a.kept a.keeps (ap (λ (n : State). n.sessions) a.now_is) (ap (λ (n : State). n.learned) a.now_is)

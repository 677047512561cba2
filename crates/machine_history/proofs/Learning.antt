-- What a turn does to the traces of each switch.
use Rattle.std.proofs.Common.{◌≡◌, ◌≢◌, ◌⊎◌, ℕ, ◌+◌, Bool, true, false, List, [], ◌++◌, length, append-nil, refl, sym, ap, ap₂, ◌∙◌, subst, inl, inr, ⊎_elim, arith}
use Rattle.std.proofs.Math.Bool.{and-false}
use Rattle.std.specs.Prelude.{◌==◌, ◌&&◌, not, find, filter, map, option_map, unwrap_or, Contains, Some}
use Rattle.std.specs.List.{list_any}
use Rattle.std.proofs.lemmas.Bool.{and_from, and_left, cases_eq, eq-eqb, ne_eqb}
use Rattle.std.proofs.lemmas.List.{length_push}
use Rattle.std.proofs.lemmas.List.Elements.{filter_agree}
use Rattle.topo_paths.specs.Scenes.{cell_in}
use Rattle.policy_lang.specs.declared.Policy.{Policy}
use Rattle.report_text.specs.declared.line.Line.{Line}
use Rattle.switch_session.specs.Sessions.{breaks_off}
use Rattle.switch_traces.specs.Traces.{those}
use Rattle.trace_tree.specs.declared.node.Trace.{Trace}
use Rattle.trace_tree.specs.declared.node.Leaf.{Leaf}
use Rattle.trace_tree.specs.Growth.{leaf_of}
use Rattle.trace_tree.specs.Stands.{of_leaf}
use Rattle.tree_prune.specs.Current.{is_current}
use Rattle.tree_prune.specs.Laws.{SameIsEqual}
use Rattle.update_plan.proofs.Members.{in_any}
use Rattle.machine_steps.specs.declared.entry.Entry.{Entry}
use Rattle.machine_steps.specs.declared.reply.Reply.{Reply}
use Rattle.machine_steps.specs.Machine.{Session, State, policy_number, has_switch, is_live, with_session, with_traces, traces_of}
use Rattle.machine_steps.specs.Steps.{switch_of, renewed, Reaches}
use Rattle.machine_steps.specs.Histories.{Turn}
use Rattle.machine_steps.specs.Sound.{IsInOrder, IsSound}
use Rattle.machine_steps.proofs.Sound.Kept.{traces_kept, traces_put, traces_beside}
use Rattle.machine_steps.proofs.Sound.Moves.{breaks_so}
use Rattle.machine_steps.proofs.Sound.Following.{same_switch}
use Rattle.machine_steps.proofs.Sound.Zipped.{find_all}
use Rattle.machine_history.specs.Live.{Learning, learned_at, became_quiet, quiets}
use Rattle.machine_history.proofs.Filters.{filter_none}
use Rattle.machine_history.proofs.Hearing.{broken_quiet}
use Rattle.machine_history.proofs.Lasting.{holds, outlasts}
use Rattle.machine_history.proofs.Quiet.{NoneTurnsAt, found_in, put_cases, put_there, turns_same, turns_at, none_quiet}
use Rattle.machine_history.proofs.Resting.{JobsFrom, Rests, all_now}

-- the trace of a switch, which was there before the turn, outlasts it
abbrev pub still : ℕ → Turn → Trace → Bool
still switch t r = outlasts (record { switch = switch; policy = policy_number t.before; trace = r }) t

-- what was learned in the turn for a switch and holds behind it
abbrev pub put_now : ℕ → Turn → List Learning → List Trace
put_now switch t ls = map (λ (l : Learning). l.trace) (filter (λ (l : Learning). l.switch == switch && holds l t) ls)

-- those stay that outlast the turn, behind them comes what is learned in it; each open job was open before or is told of
pub record Goes (t : Turn) : Type 0 where
  pub lists : (switch : ℕ) → traces_of switch t.behind ≡ filter (still switch t) (traces_of switch t.before) ++ put_now switch t (learned_at t.before.trace_count t)
  pub count : t.behind.trace_count ≡ t.before.trace_count + length (learned_at t.before.trace_count t)
  pub jobs : JobsFrom t.before t.reply t.behind

-- where the policy stays and no session of the switch becomes quiet, those stay that have the values of now
pub still_now : (t : Turn) (switch : ℕ) → quiets switch t ≡ false → policy_number t.behind ≡ policy_number t.before → (rs : List Trace)
    → filter (still switch t) rs ≡ those (is_current (cell_in t.behind.scene)) rs
still_now t switch loud policy rs =
    filter_agree (still switch t) (of_leaf (is_current (cell_in t.behind.scene)))
    (λ r. ap₂ (λ q e. not q && (e && is_current (cell_in t.behind.scene) (leaf_of r))) loud (eq-eqb (policy_number t.behind) (policy_number t.before) policy)) rs

-- nothing is learned in the turn
nothing_put : (t : Turn) (switch : ℕ) (ls : List Learning) → ls ≡ [] → (rs qs : List Trace) → qs ≡ rs → qs ≡ rs ++ put_now switch t ls
nothing_put t switch ls none rs qs e = e ∙ sym (append-nil rs) ∙ ap (λ ms. rs ++ put_now switch t ms) (sym none)

nothing_counted : (ls : List Learning) → ls ≡ [] → (m n : ℕ) → n ≡ m → n ≡ m + length ls
nothing_counted ls none m n e = let f = ap length none in omega (arith, e, f)

pub goes_rested : (t : Turn) → IsSound t.before → Rests t.before t.reply t.behind → ((n : ℕ) → learned_at n t ≡ []) → Goes t
goes_rested t h r none = record {
  lists = λ switch. nothing_put t switch (learned_at t.before.trace_count t) (none t.before.trace_count) (filter (still switch t) (traces_of switch t.before)) (traces_of switch t.behind)
      (r.traces switch
      ∙ sym (still_now t switch (none_quiet switch t.before.sessions t.behind.sessions h.others (turns_at switch t.before.sessions t.behind.sessions r.quiet)) r.policy (traces_of switch t.before)));
  count = nothing_counted (learned_at t.before.trace_count t) (none t.before.trace_count) t.before.trace_count t.behind.trace_count r.count;
  jobs = r.jobs;
}

abbrev pub turn : State → Entry → Reply → State → Turn
turn old entry reply new = record { before = old; entry = entry; reply = reply; behind = new }

-- ---- another policy: no trace outlasts it

pub goes_renewed : (policy : Policy) (old : State) (entry : Entry) (reply : Reply) (new : State) → Reaches old (renewed policy old) new → ((n : ℕ) → learned_at n (turn old entry reply new) ≡ []) → Goes (turn old entry reply new)
goes_renewed policy old entry reply new r none = record {
  lists = λ switch. nothing_put t switch (learned_at old.trace_count t) (none old.trace_count) (filter (still switch t) (traces_of switch old)) (traces_of switch new)
      (ap (traces_of switch) r.now_is ∙ traces_kept (λ (l : Leaf). false) old.learned switch ∙ filter_none (of_leaf (λ (l : Leaf). false)) (λ x. refl) (traces_of switch old)
      ∙ sym (filter_none (still switch t) (gone switch) (traces_of switch old)));
  count = nothing_counted (learned_at old.trace_count t) (none old.trace_count) old.trace_count new.trace_count (ap (λ (m : State). m.trace_count) r.now_is);
  jobs = λ j c. inl (subst (λ (m : State). Contains m.jobs j) r.now_is c);
}
  where
    t : Turn
    t = turn old entry reply new

    other : policy_number old ≡ policy_number new → ⊥
    other e = let f = e ∙ ap policy_number r.now_is ∙ length_push old.earlier old.policy in absurd (omega (arith, f))

    gone : (switch : ℕ) (x : Trace) → still switch (turn old entry reply new) x ≡ false
    gone switch x =
        ap (λ e. not (quiets switch (turn old entry reply new)) && (e && is_current (cell_in new.scene) (leaf_of x))) (ne_eqb (policy_number new) (policy_number old) (λ e. other (sym e)))
        ∙ and-false (not (quiets switch (turn old entry reply new)))

-- ---- the first error of a batch: its switch's traces go

module _ (same : SameIsEqual) (old : State) (h : IsSound old) (entry : Entry) (reply : Reply) (none : (n : ℕ) (new : State) → learned_at n (turn old entry reply new) ≡ []) where
  module _ (p : Session → Bool) (s : Session) (told : List Line) (found : find p old.sessions ≡ Some s) (live : is_live s ≡ true) (loud : s.quiet ≡ false) where
    abbrev broken : Session
    broken = breaks_off s

    abbrev quieter : State
    quieter = record (with_traces (switch_of broken) [] (with_session broken old)) { lines = told }

    its_same : switch_of broken ≡ switch_of s
    its_same = same_switch s broken (breaks_so s).dpid

    own : (switch : ℕ) → has_switch switch s ≡ (switch_of s == switch)
    own switch = ap (λ d. unwrap_or (option_map (λ n. n == switch) d) false) ((find_all (IsInOrder old) p old.sessions s h.sessions found).live live).number

    -- the session became quiet
    its_quiet : quiets (switch_of broken) (turn old entry reply quieter) ≡ true
    its_quiet =
        in_any (λ (x : Session). has_switch (switch_of broken) x && became_quiet quieter x) old.sessions s (found_in p old.sessions s found)
        (and_from (has_switch (switch_of broken) s) (became_quiet quieter s) (own (switch_of broken) ∙ eq-eqb (switch_of s) (switch_of broken) (sym its_same))
        (and_from (not s.quiet) (list_any (λ (x : Session). x.connection == s.connection && x.quiet) quieter.sessions) (ap not loud)
        (in_any (λ (x : Session). x.connection == s.connection && x.quiet) quieter.sessions broken (put_there broken s old.sessions (found_in p old.sessions s found) (breaks_so s).connection)
        (and_from (broken.connection == s.connection) broken.quiet (eq-eqb broken.connection s.connection (breaks_so s).connection) (broken_quiet s)))))

    beside : (switch : ℕ) → switch ≢ switch_of broken → NoneTurnsAt switch old.sessions quieter.sessions
    beside switch other t c q =
        ⊎_elim
        (λ e. record {
          session = s;
          there = found_in p old.sessions s found;
          connection = sym (breaks_so s).connection ∙ ap (λ (x : Session). x.connection) e;
          beside = and_left (has_switch switch s) (not s.quiet) (own switch ∙ ne_eqb (switch_of s) switch (λ f. other (sym f ∙ sym its_same)));
        })
        (λ d. turns_at switch old.sessions old.sessions (turns_same old.sessions) t d q)
        (put_cases broken old.sessions t c)

    pub goes_broken : Goes (turn old entry reply quieter)
    goes_broken = record {
      lists = λ switch. nothing_put t switch (learned_at old.trace_count t) (none old.trace_count quieter) (filter (still switch t) (traces_of switch old)) (traces_of switch quieter) (by switch (cases_eq switch (switch_of broken)));
      count = nothing_counted (learned_at old.trace_count t) (none old.trace_count quieter) old.trace_count old.trace_count refl;
      jobs = λ j c. inl c;
    }
      where
        t : Turn
        t = turn old entry reply quieter

        by : (switch : ℕ) → (switch ≡ switch_of broken) ⊎ (switch ≢ switch_of broken) → traces_of switch quieter ≡ filter (still switch (turn old entry reply quieter)) (traces_of switch old)
        by switch (inl e) =
            ap (λ q. traces_of q quieter) e ∙ traces_put (switch_of broken) [] old.learned
            ∙ sym (filter_none (still switch (turn old entry reply quieter)) (λ r. ap (λ q. not q && holds (record { switch = switch; policy = policy_number old; trace = r }) (turn old entry reply quieter)) (ap (λ q. quiets q (turn old entry reply quieter)) e ∙ its_quiet)) (traces_of switch old))
        by switch (inr other) =
            traces_beside (switch_of broken) [] switch other old.learned ∙ sym (all_now same old h switch)
            ∙ sym (still_now (turn old entry reply quieter) switch (none_quiet switch old.sessions quieter.sessions h.others (beside switch other)) refl (traces_of switch old))

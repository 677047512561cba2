-- What an accepted update leaves sound.
use Rattle.std.proofs.Common.{◌≡◌, ◌≢◌, ℕ, ◌≤◌, Bool, true, false, List, [], ◌∷◌, refl, sym, ap, ◌∙◌, subst, inl, inr, le_refl}
use Rattle.std.specs.Prelude.{◌&&◌, not, Some, None}
use Rattle.std.specs.List.{AllByRecursion, AllPairs, AllZip}
use Rattle.std.specs.FinSet as set
use Rattle.env_cells.specs.declared.updates.Update.{Update}
use Rattle.env_cells.specs.declared.updates.Update.TheVariants.{Tables}
use Rattle.env_cells.specs.Environment.{knows}
use Rattle.env_cells.specs.Changes.{applied}
use Rattle.env_cells.specs.Refusals.{refusal_of}
use Rattle.topo_paths.specs.Scenes.{cell_in}
use Rattle.policy_lang.specs.declared.Policy.{Policy}
use Rattle.report_text.specs.declared.line.Line.TheVariants as lines
use Rattle.trace_tree.specs.declared.node.Leaf.{Leaf}
use Rattle.tree_prune.specs.Current.{is_current}
use Rattle.update_plan.specs.Batches.{IsTarget}
use Rattle.switch_session.specs.Sessions.{heading, aimed}
use Rattle.switch_traces.specs.Traces.{Learnings, those}
use Rattle.switch_traces.specs.Lists.{AreRulesOf, AreFit}
use Rattle.machine_steps.specs.Machine.{Session, State, is_live, was_opened, traces_in, traces_of, kept_of, state_number, tells}
use Rattle.machine_steps.specs.Steps.{switch_of, HeadsFor, HeadsOn, AimsBy, AimsOne, AimsAll, updated, renewed, gone, Reaches}
use Rattle.machine_steps.specs.Sound.{AreInRange, IsCurrent, AreLearned, HeadsRight, IsInOrder, BeginAtPorts, IsSound}
use Rattle.machine_steps.proofs.Sound.Zipped.{pairs_to, pairs_from, all_weaker, zip_weaker, zip_with}
use Rattle.machine_steps.proofs.Sound.Alike.{early_alike, fit_in}
use Rattle.machine_steps.proofs.Sound.Following.{Stays, stays_same, stays_in_phase, same_switch, sound_following}
use Rattle.machine_steps.proofs.Sound.Aims.{aimed_so, aimed_rules}
use Rattle.machine_steps.proofs.Sound.Kept.{LowerLaws, is_listed, traces_kept, listed_kept, current_stay, none_stay, all_kept, pairs_kept, switches_kept}
use Rattle.machine_steps.proofs.Sound.Known.{knows_still}
use Rattle.machine_steps.proofs.Sound.Linked.{links_still}

-- of each switch's traces those are left of which p holds, and what is known of switches stays
pub record IsPruned (p : Leaf → Bool) (m n : State) : Type 0 where
  pub settings : n.settings ≡ m.settings
  pub traces : (switch : ℕ) → traces_of switch n ≡ those p (traces_of switch m)
  pub listed : (switch : ℕ) → is_listed switch m.learned ≡ true → is_listed switch n.learned ≡ true
  pub known : (switch : ℕ) → knows m.scene switch ≡ true → knows n.scene switch ≡ true
  pub opened : (c : ℕ) → was_opened c m ≡ true → was_opened c n ≡ true
  pub fit : (switch : ℕ) → AreFit m.settings.capacity (traces_of switch m)

module _ (laws : LowerLaws) (p : Leaf → Bool) (m n : State) (pruned : IsPruned p m n) where
  pub fit_left : (switch : ℕ) → AreFit m.settings.capacity (traces_of switch n)
  fit_left switch = subst (AreFit m.settings.capacity) (sym (pruned.traces switch)) (laws.fewer m.settings.capacity p (traces_of switch m) (pruned.fit switch))

  headed : (s : Session) → HeadsRight m s → IsTarget s.capacity (heading s)
  headed s h = (laws.list s.capacity (traces_of (switch_of s) m) (heading s) (subst (λ c. AreFit c (traces_of (switch_of s) m)) (sym h.capacity) (pruned.fit (switch_of s))) h.rules).target

  -- a session that is not quiet, of the same switch, with the rules that are left
  heads_by : (s : Session) → HeadsRight m s → s.quiet ≡ false → (t : Session) → t.dpid ≡ s.dpid → t.capacity ≡ s.capacity → t.quiet ≡ s.quiet → AreRulesOf (traces_of (switch_of s) n) (heading t) → HeadsRight n t
  heads_by s h loud t d c q are =
      let same = same_switch s t d in
      record {
        rules = subst (λ w. AreRulesOf (traces_of w n) (heading t)) (sym same) are;
        quiet = λ e. absurd (cc);
        number = d ∙ h.number ∙ ap Some (sym same);
        known = ap (knows n.scene) same ∙ pruned.known (switch_of s) h.known;
        listed = ap (λ w. is_listed w n.learned) same ∙ pruned.listed (switch_of s) h.listed;
        capacity = c ∙ h.capacity ∙ ap (λ t. t.capacity) (sym pruned.settings);
      }

  heads_quiet : (s : Session) → HeadsRight m s → s.quiet ≡ true → HeadsRight n s
  heads_quiet s h q =
      let same : traces_of (switch_of s) n ≡ traces_of (switch_of s) m = pruned.traces (switch_of s) ∙ ap (those p) (h.quiet q) ∙ sym (h.quiet q) in
      record {
        rules = subst (λ rs. AreRulesOf rs (heading s)) (sym same) h.rules;
        quiet = λ e. same ∙ h.quiet e;
        number = h.number;
        known = pruned.known (switch_of s) h.known;
        listed = pruned.listed (switch_of s) h.listed;
        capacity = h.capacity ∙ ap (λ t. t.capacity) (sym pruned.settings);
      }

  heads_for : (s : Session) → HeadsRight m s → s.quiet ≡ false → (t : Session) → HeadsFor (traces_of (switch_of s) n) s t → HeadsRight n t
  heads_for s h loud t f =
      let a = aimed_so f.plan s in
      let target = (laws.list s.capacity (traces_of (switch_of s) n) f.rules (subst (λ c. AreFit c (traces_of (switch_of s) n)) (sym h.capacity) (fit_left (switch_of s))) f.are_rules).target in
      subst (HeadsRight n) (sym f.now_is)
      (heads_by s h loud (aimed f.plan s) a.dpid a.capacity a.quiet
      (aimed_rules laws.settled (traces_of (switch_of s) n) s f.rules f.plan (headed s h) target f.is_plan h.rules.facts_order h.rules.barriers_order f.are_rules))

  -- a session that is aimed stays, and is in order
  pub aim_order : (s t : Session) → IsInOrder m s → AimsOne n.learned s t → Stays s t × IsInOrder n t
  aim_order s t o aims = go (is_live s) s.quiet refl refl aims
    where
      same_one : IsInOrder n s → t ≡ s → Stays s t × IsInOrder n t
      same_one order e = subst (λ x. Stays s x × IsInOrder n x) (sym e) (stays_same s, order)

      opened_still : was_opened s.connection n ≡ true
      opened_still = pruned.opened s.connection o.opened

      aims_at : is_live s ≡ true → s.quiet ≡ false → HeadsOn (traces_of (switch_of s) n) s t → Stays s t × IsInOrder n t
      aims_at l q (inl b) = same_one (record { live = λ k. heads_by s (o.live l) q s refl refl refl b.0; early = λ k e. absurd (cc); idle = o.idle; opened = opened_still }) b.1
      aims_at l q (inr f) =
          let a = aimed_so f.plan s in
          let stays : Stays s t = subst (Stays s) (sym f.now_is) (stays_in_phase s (aimed f.plan s) a.connection a.phase a.dpid) in (
            stays,
            record {
              live = λ k. heads_for s (o.live l) q t f;
              early = λ k e. let g = stays.live_too in absurd (cc);
              idle = ap (λ (x : Session). x.prepared) f.now_is ∙ a.idle;
              opened = ap (λ c. was_opened c n) stays.connection ∙ opened_still;
            },
          )

      go : (l q : Bool) → is_live s ≡ l → s.quiet ≡ q → AimsBy (l && not q) n.learned s t → Stays s t × IsInOrder n t
      go true false l q b = aims_at l q b
      go true true l q e = same_one (record { live = λ k. heads_quiet s (o.live l) q; early = λ k f. absurd (cc); idle = o.idle; opened = opened_still }) e
      go false q l f e = same_one (record { live = λ k. absurd (cc); early = λ k g. early_alike m n s pruned.settings (o.early k g); idle = o.idle; opened = opened_still }) e

pub aims_zip : (ls : List Learnings) (ss ts : List Session) → AimsAll ls ss ts → AllZip (AimsOne ls) ss ts
aims_zip ls [] ts h = subst (AllZip (AimsOne ls) []) (sym h) tt
aims_zip ls (s ∷ ss) [] h = absurd h
aims_zip ls (s ∷ ss) (t ∷ ts) h = (h.0, aims_zip ls ss ts h.1)

-- an aim keeps the connection
pub aims_connection : (ls : List Learnings) (s t : Session) → AimsOne ls s t → t.connection ≡ s.connection
aims_connection ls s t aims = go (is_live s && not s.quiet) aims
  where
    go : (b : Bool) → AimsBy b ls s t → t.connection ≡ s.connection
    go true (inl b) = ap (λ (x : Session). x.connection) b.1
    go true (inr f) = ap (λ (x : Session). x.connection) f.now_is ∙ (aimed_so f.plan s).connection
    go false e = ap (λ (x : Session). x.connection) e

pub sound_reached : LowerLaws → (p : Leaf → Bool) (m n : State) → IsSound m → n.settings ≡ m.settings → n.learned ≡ kept_of p m.learned → ((switch : ℕ) → knows m.scene switch ≡ true → knows n.scene switch ≡ true)
    → BeginAtPorts n.scene → n.opened ≡ m.opened → ((l : Learnings) → AreLearned m l → AllByRecursion (IsCurrent n l.switch) (those p l.traces)) → AimsAll n.learned m.sessions n.sessions → n.jobs ≡ m.jobs → m.job_count ≤ n.job_count → IsSound n
sound_reached laws p m n h settings learned known links opened current aims jobs few =
    sound_following m n h (subst AreInRange (sym settings) h.ranges) (subst (AllByRecursion (AreLearned n)) (sym learned) (all_kept laws p m n settings current m.learned h.learned))
    (subst (AllPairs (λ (k l : Learnings). k.switch ≢ l.switch)) (sym learned) (pairs_from (λ (k l : Learnings). k.switch ≢ l.switch) (kept_of p m.learned) (pairs_kept p m.learned (pairs_to (λ (k l : Learnings). k.switch ≢ l.switch) m.learned h.lists))))
    (subst (AllByRecursion (λ (l : Learnings). knows n.scene l.switch ≡ true)) (sym learned)
    (switches_kept (λ s. knows n.scene s ≡ true) p m.learned (all_weaker (λ (l : Learnings). knows m.scene l.switch ≡ true) (λ (l : Learnings). knows n.scene l.switch ≡ true) (λ l k. known l.switch k) m.learned h.switches)))
    links
    (zip_weaker (λ s t. IsInOrder m s × AimsOne n.learned s t) (λ s t. Stays s t × IsInOrder n t) (λ s t b. aim_order laws p m n pruned s t b.0 b.1) m.sessions n.sessions
    (zip_with (IsInOrder m) (AimsOne n.learned) m.sessions n.sessions h.sessions (aims_zip n.learned m.sessions n.sessions aims)))
    jobs few
  where
    pruned : IsPruned p m n
    pruned = record {
      settings = settings;
      traces = λ s. ap (λ ls. traces_in ls s) learned ∙ traces_kept p m.learned s;
      listed = λ s e. ap (is_listed s) learned ∙ listed_kept p m.learned s ∙ e;
      known = known;
      opened = λ c e. ap (λ o. set.contains o c) opened ∙ e;
      fit = λ s. fit_in laws.nil m m.learned h.learned s;
    }

-- an accepted update
pub updated_sound : LowerLaws → (u : Update) (m n : State) → IsSound m → refusal_of m.scene u ≡ None → Reaches m (updated u m) n → IsSound n
updated_sound laws u m n h accepted r =
    let after = tells (lines.State (state_number (updated u m)) (gone m (updated u m))) (record (updated u m) { sessions = r.sessions }) in
    subst IsSound (sym r.now_is)
    (sound_reached laws (is_current (cell_in (applied m.scene u))) m after h refl refl (knows_still m.scene u) (links_still m.scene u accepted h.links) refl
    (λ l a. current_stay laws.same m after (record { settings = refl; policy = refl; count = le_refl m.trace_count }) l a) r.aims refl (le_refl m.job_count))

-- and another policy
pub renewed_sound : LowerLaws → (policy : Policy) (m n : State) → IsSound m → Reaches m (renewed policy m) n → IsSound n
renewed_sound laws policy m n h r =
    let after = tells (lines.State (state_number (renewed policy m)) (gone m (renewed policy m))) (record (renewed policy m) { sessions = r.sessions }) in
    subst IsSound (sym r.now_is) (sound_reached laws (λ (l : Leaf). false) m after h refl refl (knows_still m.scene (Tables policy.tables)) h.links refl (λ l a. none_stay after l.switch l.traces) r.aims refl (le_refl m.job_count))

-- Rounds, put together from their calls.
use Rattle.std.proofs.Common.{◌≡◌, ℕ, zero, suc, ◌+◌, ◌≤◌, ◌<◌, ◌^◌, List, [], ◌∷◌, ◌++◌, sym, refl, ap, ◌∙◌, subst, arith, append-nil, append_assoc, Some, None, Result, Ok, Err, IfOk, IfErr, inl, inr}
use Rattle.history_lock.specs.Histories.{AllAt}
use Rattle.policy_lang.specs.declared.Policy.{Policy}
use Rattle.policy_eval.specs.Answers.{IsBudget}
use Rattle.trace_record.specs.Runs.{Recorded}
use Rattle.machine_steps.specs.declared.entry.Entry.TheVariants as entries
use Rattle.machine_steps.specs.declared.reply.Reply.{Reply}
use Rattle.machine_steps.specs.declared.reply.Reply.TheVariants as replies
use Rattle.machine_steps.specs.Waiting.{Waiting}
use Rattle.machine_sharing.specs.Longer.{IsTold, Lends, ToldStays}
use Rattle.machine_sharing.specs.Sharing.{Call, stale_count}
use Rattle.packet_workers.specs.declared.worked.Worked.{Worked}
use Rattle.packet_workers.specs.declared.worked.Worked.TheVariants as how
use Rattle.packet_workers.specs.Adding.{PassView, Adds}
use Rattle.packet_workers.specs.Rounds.{Behind, Does, IsBroken, IsBudgetOf, IsLast, IsWornBy, Reads, Rounds, worked_by}
use Rattle.packet_workers.specs.Pieces.{CommitsBack, CommitsLast, Ends, EndsWith, EndsWork, GoesBack, IsRefused, IsStaleCommit, LendsIt, LendsNone, LendsNot, Records, RecordsNot}
use Rattle.packet_workers.proofs.Passing.{adds_then, stale_grows}
use Rattle.packet_workers.proofs.Reading.{reads_lead}

-- ---- Worn

never_worn : (r : Reply) → worked_by r ≡ Some how.Worn → ⊥
never_worn (replies.Answered d l) e = cc
never_worn replies.Spent e = cc
never_worn replies.NotOpen e = cc
never_worn replies.NoMemory e = cc
never_worn other e = cc

not_worn : (reply : Reply) (worked : Worked) (n : ℕ) → worked_by reply ≡ Some worked → n < 2 ^ 62 → IsWornBy worked n
not_worn reply how.Worn n is small = absurd (never_worn reply is)
not_worn reply other n is small = small

worn_is : (worked : Worked) (n : ℕ) → worked ≡ how.Worn → 2 ^ 62 ≤ n → IsWornBy worked n
worn_is worked n is full = let P : Worked → Type 0 = λ w. IsWornBy w n in subst P (sym is) full

-- ---- what stays

pub budget_stays : (budget : ℕ) (u v : PassView) (cs : List Call) → Adds u cs v → IsBudgetOf budget u → IsBudgetOf budget v
budget_stays budget u v cs a b = λ m opens. b m (sym a.opening ∙ opens)

told_at : (seen : List Call) (ps : List ℕ) (e : Call) (number : ℕ) (policy : Policy) → AllAt seen ps (e ∷ []) → e.entry ≡ entries.ReadPolicy → Lends number policy e.reply → IsTold number policy seen
told_at seen [] e number policy all entry lends = absurd all
told_at seen (p ∷ ps) e number policy (at, all) entry lends = record { call = e; place = p; there = at; entry = entry; lends = lends }

pub told_now : (number : ℕ) (policy : Policy) (u v : PassView) → LendsIt number policy u v → IsTold number policy v.seen
told_now number policy u v l = told_at v.seen l.made.adds.did.positions l.made.call number policy l.made.adds.did.at l.made.entry_is l.lends

pub budget_now : (number : ℕ) (policy : Policy) (u v : PassView) (budget : ℕ) → LendsIt number policy u v → IsBudgetOf budget u → IsBudget budget
budget_now number policy u v budget l b =
    let is = b l.opening (sym l.made.adds.opening ∙ l.opens) in
    let some = l.ranges.some_budget in
    let few = l.ranges.budget in
    record { some = omega (arith, is, some); few = omega (arith, is, few) }

module _ (item : Waiting) (budget : ℕ) where
  pub told_run : ToldStays → (number : ℕ) (policy : Policy) (u v : PassView) (run : Recorded) → Records item budget number policy u v run → IsTold number policy u.seen → IsTold run.number run.policy v.seen
  told_run stays number policy u v run r t =
      let P : ℕ → Type 0 = λ x. IsTold x run.policy v.seen in
      let Q : Policy → Type 0 = λ x. IsTold number x v.seen in
      subst P (sym r.run_is.call.number) (subst Q (sym r.run_is.call.policy) (stays number policy v.seen u.seen r.read.adds.did.later t))

  pub of_policy : (number : ℕ) (p q : Policy) (u v : PassView) (run : Recorded) → p ≡ q → Records item budget number p u v run → Records item budget number q u v run
  of_policy number p q u v run is r = let P : Policy → Type 0 = λ x. Records item budget number x u v run in subst P is r

  -- ---- the rest of a round, behind its ReadPolicy

  -- a Commit of the run, behind the cells that were read for it
  commit_behind : (next : List Call → Worked → Type 0) (number : ℕ) (policy : Policy) (u v : PassView) (run : Recorded) (r : Records item budget number policy u v run) (e : Call) (rest : List Call) (worked : Worked)
      → e.entry ≡ entries.Commit item.job run → Behind item budget next e rest worked → Reads item budget next number policy [] (r.read.calls ++ e ∷ rest) worked
  commit_behind next number policy u v run r e rest worked is h =
      reads_lead item budget next number policy r.read.calls [] r.read.told (e ∷ rest) worked r.read.are (inr (record { run = run; entry_is = is; run_is = r.run_is }, h))

  commits_back : (number : ℕ) (policy : Policy) (u v w : PassView) (run : Recorded) → Records item budget number policy u v run → IsStaleCommit item.job run v w → CommitsBack item budget number policy u w
  commits_back number policy u v w run r s =
      record {
        calls = r.read.calls ++ s.made.call ∷ [];
        adds = adds_then u v w r.read.calls (s.made.call ∷ []) r.read.adds s.made.adds;
        leads = λ n rest worked after.
            (let P : List Call → Type 0 = λ x. Reads item budget (Rounds item budget n) number policy [] x worked in
            subst P (sym (append_assoc r.read.calls (s.made.call ∷ []) rest))
            (commit_behind (Rounds item budget n) number policy u v run r s.made.call rest worked s.made.entry_is (inl (s.differs, s.stale, after))));
        stale = (let a = stale_grows item.job u v r.read.calls r.read.adds in let b = s.more in omega (arith, a, b));
      }

  commits_last : (number : ℕ) (policy : Policy) (u v w : PassView) (run : Recorded) (worked : Worked) → Records item budget number policy u v run → Ends item (entries.Commit item.job run) v w worked
      → CommitsLast item budget number policy u w worked
  commits_last number policy u v w run worked r (inl none_made) =
      record {
        calls = r.read.calls ++ [];
        adds = adds_then u v w r.read.calls [] r.read.adds none_made.adds;
        ends = λ n. reads_lead item budget (Rounds item budget n) number policy r.read.calls [] r.read.told [] worked r.read.are (let P : Worked → Type 0 = IsBroken in subst P (sym none_made.worn) tt);
        worn = worn_is worked w.number none_made.worn none_made.full;
      }
  commits_last number policy u v w run worked r (inr e) =
      record {
        calls = r.read.calls ++ e.made.call ∷ [];
        adds = adds_then u v w r.read.calls (e.made.call ∷ []) r.read.adds e.made.adds;
        ends = λ n. commit_behind (Rounds item budget n) number policy u v run r e.made.call [] worked e.made.entry_is (inr e.last);
        worn = not_worn e.made.call.reply worked w.number e.last.answers e.made.small;
      }

  pub commits_not : (number : ℕ) (policy : Policy) (u v : PassView) (worked : Worked) → RecordsNot u v worked → CommitsLast item budget number policy u v worked
  commits_not number policy u v worked r =
      record {
        calls = r.read.calls ++ [];
        adds = (let P : List Call → Type 0 = λ x. Adds u x v in subst P (sym (append-nil r.read.calls)) r.read.adds);
        ends = λ n. reads_lead item budget (Rounds item budget n) number policy r.read.calls [] r.read.told [] worked r.read.are r.broken;
        worn = r.worn;
      }

  pub commits_back_by : (number : ℕ) (policy : Policy) (u v w : PassView) (run : Recorded) {X Y : Type 0} (r : Result X Y) → Records item budget number policy u v run → IfOk r (λ _. IsStaleCommit item.job run v w)
      → IfOk r (λ _. CommitsBack item budget number policy u w)
  commits_back_by number policy u v w run (Ok x) rec s = commits_back number policy u v w run rec s
  commits_back_by number policy u v w run (Err y) rec s = tt

  pub commits_last_by : (number : ℕ) (policy : Policy) (u v w : PassView) (run : Recorded) {X : Type 0} (r : Result X Worked) → Records item budget number policy u v run
      → IfErr r (λ worked. Ends item (entries.Commit item.job run) v w worked) → IfErr r (λ worked. CommitsLast item budget number policy u w worked)
  commits_last_by number policy u v w run (Ok x) rec e = tt
  commits_last_by number policy u v w run (Err worked) rec e = commits_last number policy u v w run worked rec e

  -- ---- a whole round

  goes_back : (number : ℕ) (policy : Policy) (u v w : PassView) → LendsIt number policy u v → CommitsBack item budget number policy v w → GoesBack item budget u w
  goes_back number policy u v w l b =
      record {
        calls = l.made.call ∷ b.calls;
        adds = adds_then u v w (l.made.call ∷ []) b.calls l.made.adds b.adds;
        leads = λ n rest worked after. (l.made.entry_is, inl (number, policy, l.lends, b.leads n rest worked after));
        stale = (let a = stale_grows item.job u v (l.made.call ∷ []) l.made.adds in let c = b.stale in omega (arith, a, c));
      }

  ends_work : (number : ℕ) (policy : Policy) (u v w : PassView) (worked : Worked) → LendsIt number policy u v → CommitsLast item budget number policy v w worked → EndsWork item budget u w worked
  ends_work number policy u v w worked l b =
      record {
        calls = l.made.call ∷ b.calls;
        adds = adds_then u v w (l.made.call ∷ []) b.calls l.made.adds b.adds;
        ends = λ n. (l.made.entry_is, inl (number, policy, l.lends, b.ends n));
        worn = b.worn;
      }

  pub ends_early : (u v : PassView) (worked : Worked) → LendsNot worked u v → EndsWork item budget u v worked
  ends_early u v worked (inl none_made) = record { calls = []; adds = none_made.adds; ends = λ n. none_made.worn; worn = worn_is worked v.number none_made.worn none_made.full }
  ends_early u v worked (inr l) =
      record {
        calls = l.made.call ∷ [];
        adds = l.made.adds;
        ends = λ n. (l.made.entry_is, inr (l.lacks, refl, l.answer));
        worn = (let P : Worked → Type 0 = λ w. IsWornBy w v.number in subst P (sym l.answer) l.made.small);
      }

  pub goes_back_by : (number : ℕ) (policy : Policy) (u v w : PassView) {X Y : Type 0} (r : Result X Y) → LendsIt number policy u v → IfOk r (λ _. CommitsBack item budget number policy v w)
      → IfOk r (λ _. GoesBack item budget u w)
  goes_back_by number policy u v w (Ok x) l b = goes_back number policy u v w l b
  goes_back_by number policy u v w (Err y) l b = tt

  pub ends_work_by : (number : ℕ) (policy : Policy) (u v w : PassView) {X : Type 0} (r : Result X Worked) → LendsIt number policy u v → IfErr r (λ worked. CommitsLast item budget number policy v w worked)
      → IfErr r (λ worked. EndsWork item budget u w worked)
  ends_work_by number policy u v w (Ok x) l b = tt
  ends_work_by number policy u v w (Err worked) l b = ends_work number policy u v w worked l b

  -- ---- rounds

  last : (u v : PassView) (worked : Worked) → Ends item (entries.Decide item.job) u v worked → Does 0 item budget u v worked
  last u v worked (inl none_made) = record { calls = []; adds = none_made.adds; are = none_made.worn; worn = worn_is worked v.number none_made.worn none_made.full }
  last u v worked (inr e) =
      record { calls = e.made.call ∷ []; adds = e.made.adds; are = (e.made.entry_is, e.last); worn = not_worn e.made.call.reply worked v.number e.last.answers e.made.small }

  pub does_last : (u v : PassView) (worked : Worked) (n : ℕ) → n ≡ 0 → Ends item (entries.Decide item.job) u v worked → Does n item budget u v worked
  does_last u v worked n none h = let P : ℕ → Type 0 = λ x. Does x item budget u v worked in subst P (sym none) (last u v worked h)

  pub does_end : (u v : PassView) (worked : Worked) (n m : ℕ) → n ≡ suc m → EndsWork item budget u v worked → Does n item budget u v worked
  does_end u v worked n m is h = let P : ℕ → Type 0 = λ x. Does x item budget u v worked in subst P (sym is) (record { calls = h.calls; adds = h.adds; are = h.ends m; worn = h.worn })

  pub does_more : (u v w : PassView) (worked : Worked) (n m : ℕ) → n ≡ suc m → GoesBack item budget u v → Does m item budget v w worked → Does n item budget u w worked
  does_more u v w worked n m is b d =
      let P : ℕ → Type 0 = λ x. Does x item budget u w worked in
      subst P (sym is) (record { calls = b.calls ++ d.calls; adds = adds_then u v w b.calls d.calls b.adds d.adds; are = b.leads m d.calls worked d.are; worn = d.worn })

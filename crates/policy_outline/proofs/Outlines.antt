-- What is read and counted tells what is wrong with tokens; they have one first fault, and where they have one they have no outline.
use Rattle.std.proofs.Common.{◌≡◌, ℕ, suc, ◌<◌, ◌≤◌, List, ◌++◌, length, take, Some, None, sym, ap, ◌∙◌, ◌+◌, true, false, Option, subst, arith, zero, [], ◌∷◌, drop, refl, ⊎_elim, inl, inr, append-nil, append_assoc}
use Rattle.std.proofs.Math.Seq.{take-length}
use Rattle.std.specs.Option.{option_and_then}
use Rattle.policy_tokens.specs.declared.token.Token.{Token}
use Rattle.policy_grammar.specs.declared.stage.Stage.TheVariants as at
use Rattle.policy_grammar.specs.Grammar.{IsText, Begins, AreStatements, File, file_tokens}
use Rattle.policy_grammar.specs.Automaton.{State, run, start, end}
use Rattle.policy_grammar.proofs.Runs.{run_append}
use Rattle.policy_grammar.proofs.Complete.{complete, traced}
use Rattle.policy_grammar.proofs.Sound.{sound}
use Rattle.policy_grammar.proofs.Finishing.{finishes, finishes_plainly}
use Rattle.policy_outline.specs.Limits.{IsFirstWrong, PassesAt, IsBegunBy, AllPass, IsLimit, IsFault, IsErrorOf, IsOutline, IsFree, IsWrongAt, IsSyntax, OneFault, NoFaultOfFree}
use Rattle.std.proofs.lemmas.Bool.{false≢true, cases_lt}
use Rattle.std.proofs.lemmas.List.{length-take-le, take-append-drop}
use Rattle.policy_grammar.specs.declared.event.Event.{Event}
use Rattle.policy_grammar.specs.Events.{trace}
use Rattle.policy_grammar.specs.Reading.{ahead_of, RunsToEnd, StopsAt, Runs}
use Rattle.policy_grammar.proofs.Progress.{stops_behind}
use Rattle.policy_lang.specs.declared.nodes.Node.{Node}
use Rattle.maple_base.specs.declared.policy_fault.PolicyFault.{PolicyFault}
use Rattle.maple_base.specs.declared.policy_fault.PolicyFault.TheVariants.{Syntax, Nesting, Nodes, TooLong}
use Rattle.policy_outline.specs.declared.fault.OutlineError.{OutlineError}
use Rattle.policy_outline.specs.declared.fault.OutlineError.TheVariants.{Fault, NoMemory}
use Rattle.policy_outline.specs.Counts.{Count, file_counts}
use Rattle.policy_outline.specs.Counting.{Counter, nothing_counted, counted_from}
use Rattle.policy_outline.specs.Outlining.{counts_of, IsStopOf}
use Rattle.policy_outline.specs.Scanning.{passes_in, scanned, first_passed}
use Rattle.policy_outline.proofs.Growing.{Onto, from_onto, from_count, from_append}
use Rattle.policy_outline.proofs.CountedFiles.{file_counted}
use Rattle.policy_outline.proofs.CountedNodes.{file_scanned}
use Rattle.policy_outline.proofs.CountedLimits.{counted_decides, free_counted, free_passes_none, is_limit, First, first_is, none_passed, passed_grows, passed_before}
use Rattle.std.specs.Prelude.{◌⊎◌}
use Rattle.maple_base.specs.PolicyFaults.{number_of, fault_numbered}
use Rattle.maple_base.proofs.FaultNumbers.{numbered_back}

-- tokens that are read can be brought to a whole text
begins_read : (ts : List Token) (s : State) → run start ts ≡ Some s → Begins ts
begins_read ts s h =
    let f = finishes s in
    let e : run start (ts ++ f.0) ≡ Some f.1 = run_append start ts f.0 ∙ ap (option_and_then (λ n. run n f.0)) h ∙ f.2 in
    record { rest = f.0; whole = sound (ts ++ f.0) f.1 e f.3 }

-- tokens that are not read begin no text
begins_not : (ts : List Token) → run start ts ≡ None → ¬ (Begins ts)
begins_not ts h b =
    let whole : run start (ts ++ b.rest) ≡ Some end = ap (run start) b.whole.same ∙ complete b.whole.file b.whole.body in
    let none : run start (ts ++ b.rest) ≡ None = run_append start ts b.rest ∙ ap (option_and_then (λ n. run n b.rest)) h in
    absurd (cc)

text_not : (ts : List Token) (s : State) → run start ts ≡ Some s → ¬ (s.stage ≡ at.End) → ¬ (IsText ts)
text_not ts s h away t =
    let e : Some s ≡ Some end = sym h ∙ ap (run start) t.same ∙ complete t.file t.body in
    let same : s ≡ end = cc in
    away (ap (λ (x : State). x.stage) same)

-- ---- files that begin with what was read

-- what is counted of tokens ahead of others
counts_ahead : (ts us : List Token) (s : State) (f : File) → run start ts ≡ Some s → AreStatements f.body → file_tokens f ≡ ts ++ us
    → (counted_from s (counted_from start nothing_counted ts) us).counts ≡ file_counts f
counts_ahead ts us s f h body same =
    sym (ap (λ (c : Counter). c.counts) (from_append ts us start s nothing_counted h)) ∙ ap counts_of (sym same) ∙ file_counted f body

counts_length : (ts : List Token) (s : State) → run start ts ≡ Some s → length (counts_of ts) ≡ length ts
counts_length ts s h = omega (arith, from_count ts start s nothing_counted h)

-- a limit that is passed at the tokens that were read is passed by each file that begins with them
each_passes : (ts : List Token) (s : State) (i : ℕ) (kind : PolicyFault) → run start ts ≡ Some s → passes_in kind i 0 0 (counts_of ts) ≡ true → (f : File) → IsBegunBy ts f → PassesAt f i kind
each_passes ts s i kind h is f b =
    let onto : Onto false (counts_of ts) (file_counts f) =
    subst (λ cs. Onto false (counts_of ts) cs) (counts_ahead ts b.rest s f h b.body b.same)
    (from_onto false b.rest s (counted_from start nothing_counted ts) (λ q. absurd (false≢true q))) in
    (counted_decides f i kind).0 (passed_grows kind (counts_of ts) (file_counts f) i 0 0 0 (omega arith) onto is)

-- a file whose further tokens are no operators
record Finished (ts : List Token) : Type 0 where
  file : File
  begun : IsBegunBy ts file
  onto : Onto true (counts_of ts) (file_counts file)

finished : (ts : List Token) (s : State) → run start ts ≡ Some s → Finished ts
finished ts s h =
    let f = finishes_plainly s in
    let read : run start (ts ++ f.0) ≡ Some f.1 = run_append start ts f.0 ∙ ap (option_and_then (λ n. run n f.0)) h ∙ f.2 in
    let text = sound (ts ++ f.0) f.1 read f.3 in
    record {
      file = text.file;
      begun = record { body = text.body; rest = f.0; same = sym text.same };
      onto =
          subst (λ cs. Onto true (counts_of ts) cs) (counts_ahead ts f.0 s text.file h text.body (sym text.same))
          (from_onto true f.0 s (counted_from start nothing_counted ts) (λ q. f.4));
    }

-- it passes no other limit at the tokens that were read
finished_free : (ts : List Token) (f : Finished ts) (i : ℕ) (kind : PolicyFault) → i < length (counts_of ts) → passes_in kind i 0 0 (counts_of ts) ≡ false → ¬ (PassesAt f.file i kind)
finished_free ts f i kind lt is p =
    false≢true (sym is ∙ passed_before kind (counts_of ts) (file_counts f.file) i 0 0 0 (omega arith) f.onto lt ((counted_decides f.file i kind).1 p))

-- ---- faults

all_pass : (ts : List Token) (s : State) (i : ℕ) (kind : PolicyFault) → run start ts ≡ Some s → First (counts_of ts) 0 0 i kind → AllPass ts i kind
all_pass ts s i kind h x =
    let f = finished ts s h in
    record {
      within = omega (arith, x.within, counts_length ts s h);
      each = each_passes ts s i kind h x.passes;
      file = f.file;
      begun = f.begun;
      least = λ other lt. finished_free ts f i other x.within (x.least other lt);
      first = λ j other lt. finished_free ts f j other (omega (arith, x.within, lt)) (x.first j other lt);
    }

limit_fault : (tokens : List Token) (i : ℕ) (kind : PolicyFault) → is_limit kind ≡ true → IsLimit tokens i kind → IsFault tokens i kind
limit_fault tokens i Nesting h p = p
limit_fault tokens i Nodes h p = p
limit_fault tokens i TooLong h p = p
limit_fault tokens i kind h p = absurd (false≢true h)

stops_wrong : (tokens : List Token) (i : ℕ) → StopsAt tokens i → IsFirstWrong tokens i
stops_wrong tokens i h =
    let same : i + 1 ≡ suc i = omega arith in
    record {
      within = h.within;
      ahead = begins_read (take i tokens) h.state h.run;
      next = λ lt. begins_not (take (suc i) tokens) (subst (λ n. run start (take n tokens) ≡ None) same (stops_behind tokens i lt h));
      whole = λ e. text_not tokens h.state (ap (run start) (sym (ap (λ n. take n tokens) e ∙ take-length tokens)) ∙ h.run) (h.unfinished e);
    }

-- a limit is passed at the tokens that were read
limit_told : (tokens : List Token) (wrong : Option ℕ) (i : ℕ) (kind : PolicyFault) → Runs tokens wrong → First (counts_of (ahead_of wrong tokens)) 0 0 i kind → IsLimit tokens i kind
limit_told tokens None i kind h x = record { wrong = None; is_wrong = sound tokens h.state h.run h.ended; passed = all_pass tokens h.state i kind h.run x }
limit_told tokens (Some j) i kind h x = record { wrong = Some j; is_wrong = stops_wrong tokens j h; passed = all_pass (take j tokens) h.state i kind h.run x }

-- ---- what is answered

-- the counts tell a limit
pub stop_told : (tokens : List Token) (wrong : Option ℕ) (counts : List Count) (error : OutlineError) → Runs tokens wrong → counts ≡ counts_of (ahead_of wrong tokens) → IsStopOf counts error
    → IsErrorOf tokens error
stop_told tokens wrong counts (Fault i kind) h same stop =
    let x = first_is (counts_of (ahead_of wrong tokens)) i kind (sym (ap (first_passed 0 0 0) same) ∙ stop) in
    limit_fault tokens i kind x.limit (limit_told tokens wrong i kind h x)
stop_told tokens wrong counts NoMemory h same stop = tt

-- they tell none, and a token is wrong
pub syntax_told : (tokens : List Token) (i : ℕ) (counts : List Count) → StopsAt tokens i → counts ≡ counts_of (take i tokens) → first_passed 0 0 0 counts ≡ None → IsFault tokens i Syntax
syntax_told tokens i counts h same none =
    let ts = take i tokens in
    let f = finished ts h.state h.run in
    let count = counts_length ts h.state h.run in
    record {
      is_wrong = stops_wrong tokens i h;
      file = f.file;
      begun = f.begun;
      free = λ j kind lt.
          finished_free ts f j kind (omega (arith, lt, count, length-take-le i tokens h.within)) (none_passed (counts_of ts) (sym (ap (first_passed 0 0 0) same) ∙ none) j kind);
    }

-- they tell none, and all tokens are those of a policy
pub outline_told : (tokens : List Token) (counts : List Count) (es : List Event) (nodes : List Node) → RunsToEnd tokens → counts ≡ counts_of tokens → first_passed 0 0 0 counts ≡ None
    → es ≡ trace start tokens → nodes ≡ scanned 0 0 0 0 counts → IsOutline tokens es nodes
outline_told tokens counts es nodes h same none read found =
    let t = sound tokens h.state h.run h.ended in
    let counted : counts ≡ file_counts t.file = same ∙ ap counts_of t.same ∙ file_counted t.file t.body in
    record {
      file = t.file;
      body = t.body;
      same = t.same;
      free = free_counted t.file (sym (ap (first_passed 0 0 0) counted) ∙ none);
      read = read ∙ ap (trace start) t.same ∙ traced t.file t.body;
      listed = found ∙ ap (scanned 0 0 0 0) counted ∙ file_scanned t.file;
    }

-- ---- the wrong token

take_both : {A : Type 0} → (n m : ℕ) (xs : List A) → n ≤ m → take n (take m xs) ≡ take n xs
take_both zero m xs h = refl
take_both (suc n) zero xs h = absurd (omega arith)
take_both (suc n) (suc m) [] h = refl
take_both (suc n) (suc m) (x ∷ xs) h = ap (λ ys. x ∷ ys) (take_both n m xs (omega arith))

begins_fewer : (ts : List Token) (n : ℕ) → Begins ts → Begins (take n ts)
begins_fewer ts n b =
    record { rest = drop n ts ++ b.rest; whole = subst IsText (ap (λ us. us ++ b.rest) (sym (take-append-drop n ts)) ∙ append_assoc (take n ts) (drop n ts) b.rest) b.whole }

-- no token of a text is wrong
text_right : (tokens : List Token) (i : ℕ) → IsText tokens → IsFirstWrong tokens i → ⊥
text_right tokens i t w =
    ⊎_elim (λ (lt : i < length tokens). w.next lt (begins_fewer tokens (suc i) (record { rest = []; whole = subst IsText (sym (append-nil tokens)) t }))) (λ (le : length tokens ≤ i). w.whole (omega (arith, le, w.within)) t) (cases_lt i (length tokens))

first_not : (tokens : List Token) (i j : ℕ) → IsFirstWrong tokens i → IsFirstWrong tokens j → i < j → ⊥
first_not tokens i j v w lt =
    v.next (omega (arith, lt, w.within)) (subst Begins (take_both (suc i) j tokens (omega (arith, lt))) (begins_fewer (take j tokens) (suc i) w.ahead))

equal_by : (i j : ℕ) → (i < j → ⊥) → (j < i → ⊥) → i ≡ j
equal_by i j h k = ⊎_elim (λ (lt : i < j). absurd (h lt)) (λ (le : j ≤ i). ⊎_elim (λ (lt : j < i). absurd (k lt)) (λ (ge : i ≤ j). omega arith) (cases_lt j i)) (cases_lt i j)

one_wrong : (tokens : List Token) (v w : Option ℕ) → IsWrongAt tokens v → IsWrongAt tokens w → v ≡ w
one_wrong tokens None None x y = refl
one_wrong tokens None (Some j) x y = absurd (text_right tokens j x y)
one_wrong tokens (Some i) None x y = absurd (text_right tokens i y x)
one_wrong tokens (Some i) (Some j) x y = ap (λ n. Some n) (equal_by i j (first_not tokens i j x y) (first_not tokens j i y x))

-- ---- limits

number_tells : (k l : PolicyFault) → number_of k ≡ number_of l → k ≡ l
number_tells k l e =
    let same : Some k ≡ Some l = sym (numbered_back k) ∙ ap fault_numbered e ∙ numbered_back l in
    cc

pass_not : (ts : List Token) (i j : ℕ) (k l : PolicyFault) → AllPass ts i k → AllPass ts j l → i < j → ⊥
pass_not ts i j k l x y lt = y.first i k lt (x.each y.file y.begun)

kind_not : (ts : List Token) (i j : ℕ) (k l : PolicyFault) → AllPass ts i k → AllPass ts j l → i ≡ j → number_of k < number_of l → ⊥
kind_not ts i j k l x y same lt = y.least k lt (subst (λ n. PassesAt y.file n k) same (x.each y.file y.begun))

one_limit : (ts : List Token) (i j : ℕ) (k l : PolicyFault) → AllPass ts i k → AllPass ts j l → (i ≡ j) × (k ≡ l)
one_limit ts i j k l x y =
    let same : i ≡ j = equal_by i j (pass_not ts i j k l x y) (pass_not ts j i l k y x) in
    (same, number_tells k l (equal_by (number_of k) (number_of l) (kind_not ts i j k l x y same) (kind_not ts j i l k y x (sym same))))

-- no limit is passed ahead of a token that is wrong first
limit_not : (tokens : List Token) (i j : ℕ) (k : PolicyFault) → IsLimit tokens i k → IsSyntax tokens j → ⊥
limit_not tokens i j k x y =
    let p = subst (λ w. AllPass (ahead_of w tokens) i k) (one_wrong tokens x.wrong (Some j) x.is_wrong y.is_wrong) x.passed in
    y.free i k (omega (arith, p.within, length-take-le j tokens y.is_wrong.within)) (p.each y.file y.begun)

-- ---- faults

sort_of : (tokens : List Token) (i : ℕ) (k : PolicyFault) → IsFault tokens i k → IsLimit tokens i k ⊎ ((k ≡ Syntax) × IsSyntax tokens i)
sort_of tokens i Syntax h = inr (refl, h)
sort_of tokens i Nesting h = inl h
sort_of tokens i Nodes h = inl h
sort_of tokens i TooLong h = inl h
sort_of tokens i k h = absurd h

one_sort : (tokens : List Token) (i j : ℕ) (k l : PolicyFault) → IsLimit tokens i k ⊎ ((k ≡ Syntax) × IsSyntax tokens i) → IsLimit tokens j l ⊎ ((l ≡ Syntax) × IsSyntax tokens j) → (i ≡ j) × (k ≡ l)
one_sort tokens i j k l (inl x) (inl y) =
    one_limit (ahead_of y.wrong tokens) i j k l (subst (λ w. AllPass (ahead_of w tokens) i k) (one_wrong tokens x.wrong y.wrong x.is_wrong y.is_wrong) x.passed) y.passed
one_sort tokens i j k l (inl x) (inr y) = absurd (limit_not tokens i j k x y.1)
one_sort tokens i j k l (inr x) (inl y) = absurd (limit_not tokens j i l y x.1)
one_sort tokens i j k l (inr x) (inr y) =
    (equal_by i j (first_not tokens i j x.1.is_wrong y.1.is_wrong) (first_not tokens j i y.1.is_wrong x.1.is_wrong), x.0 ∙ sym y.0)

pub one_fault : OneFault
one_fault tokens i j k l x y = one_sort tokens i j k l (sort_of tokens i k x) (sort_of tokens j l y)

not_free : (tokens : List Token) (i : ℕ) (k : PolicyFault) (f : File) → AreStatements f.body → tokens ≡ file_tokens f → IsLimit tokens i k ⊎ ((k ≡ Syntax) × IsSyntax tokens i) → ¬ (IsFree f)
not_free tokens i k f body same (inl x) free =
    let text : IsText tokens = record { file = f; body = body; same = same } in
    let p = subst (λ w. AllPass (ahead_of w tokens) i k) (one_wrong tokens x.wrong None x.is_wrong text) x.passed in
    (free_passes_none f).0 free i k (p.each f (record { body = body; rest = []; same = sym same ∙ sym (append-nil tokens) }))
not_free tokens i k f body same (inr x) free = text_right tokens i (record { file = f; body = body; same = same }) x.1.is_wrong

pub fault_or_outline : NoFaultOfFree
fault_or_outline tokens i k f h body same = not_free tokens i k f body same (sort_of tokens i k h)

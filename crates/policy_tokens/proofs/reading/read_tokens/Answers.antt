use Rattle.std.proofs.Common.{◌≡◌, ◌<◌, ◌≤◌, ◌+◌, ◌++◌, length, drop, get_or, ◌∙◌, sym, ap, arith, subst}
use Rattle.std.proofs.lemmas.Grind.{common_steps}
use Rattle.std.proofs.lemmas.List.{drop_more}
use Rattle.std.specs.List.{filter_map}
use Rattle.policy_tokens.specs.Faults.{faults, earliest}
use Rattle.policy_tokens.specs.Lexemes.{past_behind, lexemes_from}
use Rattle.policy_tokens.specs.Positions.{position_at, behind}
use Rattle.policy_tokens.specs.Tokens.{IsInOrder, TokenList, tokens_of, placed}
use Rattle.policy_tokens.specs.declared.token.Position.{Position}
use Rattle.maple_base.specs.declared.policy_fault.PolicyFault.TheVariants.{TooLong}
use Rattle.policy_tokens.proofs.FirstFaults.{error_first, too_long_first, error_told, front_kind}
use Rattle.policy_tokens.proofs.Order.{few_tokens, in_order, position_step, behind_within}
use Rattle.policy_tokens.proofs.Steps.{Step, faults_from, step, read_rest, read_here, tokens_next}
use Rattle.policy_tokens.proofs.reading.read_tokens.Goals as goal

pub returns-in-Err-clause-fault : goal.returns-in-Err-clause-fault
returns-in-Err-clause-fault c =
    let text = c.args.text.now in
    let here = c.loop-offset in
    let in_text = c.loop-offset-test.true in
    let read = read_here text here.past here.offset _ in_text (sym c.token_at.ensures ∙ c.in-Err.is) in
    error_told text _ here.offset c.in-Err.kind here.position here.invariant.position here.invariant.same_faults
    (ap (λ s. earliest (faults_from text here.past here.offset s)) (drop_more text here.offset 0 in_text)
    ∙ error_first text here.past here.offset (get_or text here.offset 0) (drop (here.offset + 1) text) c.in-Err.kind here.invariant.within read)

pub returns-in-Err-clause-kind : goal.returns-in-Err-clause-kind
returns-in-Err-clause-kind c =
    let text = c.args.text.now in
    let here = c.loop-offset in
    front_kind here.past (get_or text here.offset 0) (drop (here.offset + 1) text) c.in-Err.kind
    (read_here text here.past here.offset _ c.loop-offset-test.true (sym c.token_at.ensures ∙ c.in-Err.is))

pub returns-then-offset-eq-MOST_BYTES-clause-fault : goal.returns-then-offset-eq-MOST_BYTES-clause-fault
returns-then-offset-eq-MOST_BYTES-clause-fault c =
    let text = c.args.text.now in
    let here = c.loop-offset in
    let at = c.if-offset-eq-MOST_BYTES.true in
    let in_text = c.loop-offset-test.true in
    let long : 65536 < length text = omega (arith, at, in_text) in
    let read = read_here text here.past here.offset _ in_text (sym c.token_at.ensures ∙ c.in-Ok.is) in
    let next = step text here.past here.offset (get_or text here.offset 0) (drop (here.offset + 1) text) c.in-Ok.token read in
    error_told text (faults_from text here.past 65536 (drop here.offset text)) 65536 TooLong here.position
    (subst (λ n. here.position ≡ position_at text n) at here.invariant.position)
    (subst (λ n. faults_from text here.past n (drop here.offset text) ≡ faults text) at here.invariant.same_faults)
    (ap (λ s. earliest (faults_from text here.past 65536 s)) (drop_more text here.offset 0 in_text)
    ∙ too_long_first text here.past (get_or text here.offset 0) (drop (here.offset + 1) text) c.in-Ok.token long
    (subst (λ n. Step text here.past n (get_or text here.offset 0) (drop (here.offset + 1) text) c.in-Ok.token) at next))

pub loop-offset-preserved : goal.loop-offset-preserved
loop-offset-preserved c =
    let text = c.args.text.now in
    let here = c.loop-offset in
    let in_text = c.loop-offset-test.true in
    let b = get_or text here.offset 0 in
    let bs = drop (here.offset + 1) text in
    let read = read_here text here.past here.offset _ in_text (sym c.token_at.ensures ∙ c.in-Ok.is) in
    let past = c.past_behind-past.ensures ∙ ap (λ s. past_behind here.past (get_or s 0 0) (drop 1 s)) (read_rest text here.offset in_text) in
    let next = step text here.past here.offset b bs c.in-Ok.token read in
    let near = behind_within here.position b (here.offset + 1) here.invariant.line here.invariant.column in
    record {
      same_faults = ap (λ n. faults_from text n (here.offset + 1) bs) past ∙ sym next.faults
          ∙ ap (faults_from text here.past here.offset) (sym (drop_more text here.offset 0 in_text)) ∙ here.invariant.same_faults;
      tokens = ap (λ n. c.keep.new.list.items ++ filter_map (placed text) (lexemes_from n (here.offset + 1) bs)) past
          ∙ tokens_next text here.past here.offset c.in-Ok.token here.position _ here.list.items c.keep.new.list.items in_text next here.invariant.position c.in_ok-keep.ensures here.invariant.tokens;
      position = c.behind-position.ensures ∙ ap (λ (p : Position). behind p b) here.invariant.position ∙ sym (position_step text here.offset in_text);
      line = subst (λ (p : Position). p.line ≤ here.offset + 1 + 1) (sym c.behind-position.ensures) near.0;
      column = subst (λ (p : Position). p.column ≤ here.offset + 1 + 1) (sym c.behind-position.ensures) near.1;
      within = omega arith;
    }

pub returns-clause-in_order : goal.returns-clause-in_order
returns-clause-in_order c =
    let same : c.new.result ≡ tokens_of c.args.text.now = grind (arith, common_steps) in
    subst IsInOrder (sym same) (in_order c.args.text.now)

pub returns-clause-few : goal.returns-clause-few
returns-clause-few c =
    let text = c.args.text.now in
    let same : c.new.result ≡ tokens_of text = grind (arith, common_steps) in
    let within : length text ≤ 65536 = omega arith in
    omega (arith, ap (λ (l : TokenList). length l.tokens) same, few_tokens text 0 0 text)

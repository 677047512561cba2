use Rattle.std.proofs.Common.{ap, sym, subst, ◌∙◌}
use Rattle.policy_lang.specs.Walks.{told}
use Rattle.policy_text.specs.Texts.{plain, token_position, IsWrong}
use Rattle.policy_text.proofs.Outlined.{parts_are, few_nodes, formed, named_wrong}
use Rattle.policy_text.proofs.reading.outlined_policy.Goals as goal

pub first_name_fault-requires : goal.first_name_fault-requires
first_name_fault-requires c =
    record { few = few_nodes (plain c.args.tokens.now) _ _ c.requires c.deref.result.now c.deref.ensures.value c.in_ok-parts.parts c.in_ok-parts.ensures.parts }

pub built_policy-requires-clause-formed : goal.built_policy-requires-clause-formed
built_policy-requires-clause-formed c =
    formed (plain c.args.tokens.now) _ _ c.requires c.deref.result.now c.deref.ensures.value c.in_ok-parts.parts c.in_ok-parts.ensures.parts
    c.deref-3.result.now c.deref-2.result.now c.in_ok-fault.field-0 c.deref-2.ensures.value c.in_ok-fault.ensures.fault c.in-None.is

pub returns-in-Some-clause-wrong : goal.returns-in-Some-clause-wrong
returns-in-Some-clause-wrong c =
    let parts = parts_are (plain c.args.tokens.now) _ _ c.requires c.deref.result.now c.deref.ensures.value c.in_ok-parts.parts c.in_ok-parts.ensures.parts in
    let token = c.site_token-token.ensures c.requires.file (c.deref-in-Some.ensures.value ∙ parts.tables) (c.deref-in-Some-2.ensures.value ∙ c.requires.listed) in
    subst (IsWrong c.args.tokens.now) (sym c.refused.ensures)
    (named_wrong c.args.tokens.now _ _ c.requires c.deref.result.now c.deref.ensures.value c.in_ok-parts.parts c.in_ok-parts.ensures.parts c.deref-3.result.now c.deref-2.result.now c.in-Some.fault
    c.token_position.result c.number.result c.deref-3.ensures.value c.deref-2.ensures.value (ap told (sym c.in-Some.is) ∙ c.in_ok-fault.ensures.fault)
    (c.token_position.ensures ∙ ap (token_position c.args.tokens.now) token) c.number.ensures)

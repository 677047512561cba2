use Rattle.std.proofs.Common.{◌≡◌, ◌∙◌, ap, subst, refl, rules}
use Rattle.std.specs.List.{Contains}
use Rattle.maple_io.proofs.mem.MemSinkSink.write.Goals as goal

pub returns-then-is_listed-clause-listed : goal.returns-then-is_listed-clause-listed
returns-then-is_listed-clause-listed c =
    let same : c.deref.result.now ≡ c.args.self.now.fails = c.deref.ensures.value ∙ ap (λ s. s.fails) c.self.view_is in
    let found : Contains c.deref.result.now c.saturating_add-self-inside.result = c.is_listed.ensures.0 (search rules) in
    (λ _. subst (λ xs. Contains xs c.saturating_add-self-inside.result) same found, λ _. refl)

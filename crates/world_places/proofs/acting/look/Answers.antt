use Rattle.std.proofs.Common.{Some, refl, sym, ◌∙◌, inl, inr}
use Rattle.std.proofs.lemmas.Bool.{false≢true}
use Rattle.world_places.proofs.acting.look.Goals as goal

pub returns-then-sends_up : goal.returns-then-sends_up
returns-then-sends_up c = (
  refl,
  record {
    hit = Some c.in-Some.rule.now;
    does = record { valid = sym c.valid.ensures ∙ c.if-not-valid.false; chosen = c.in-Some.ensures.found; now_is = refl };
    tells = inl (c.sends_up.ensures.0 c.if-sends_up.true, refl);
  },
)

pub returns : goal.returns
returns c = (
  refl,
  record {
    hit = Some c.in-Some.rule.now;
    does = record { valid = sym c.valid.ensures ∙ c.if-not-valid.false; chosen = c.in-Some.ensures.found; now_is = refl };
    tells = inr ((λ up. false≢true (sym c.if-sends_up.false ∙ c.sends_up.ensures.1 up)), refl);
  },
)

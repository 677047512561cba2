use Rattle.report_text.proofs.match_text.field_text.Goals as goal

pub returns : goal.returns
returns g c =
    let name = rw (c.as_bytes.ensures.value, c.name.ensures) at c.text.ensures in
    g.met.S.Sheet.joined _ _ _ _ _ name (g.met.S.Sheet.joined _ _ _ _ _ c.text-2.ensures c.value_text.ensures)

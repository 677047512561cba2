use Rattle.std.proofs.Common.{rules, tests, sym, ◌∙◌}
use Rattle.std.proofs.lemmas.Iterator.{YieldsList-from_slice}
use Rattle.std.proofs.lemmas.Iterator.Search.{any_from_yields_List}
use Rattle.machine_parts.specs.Finding.{serves}
use Rattle.machine_parts.specs.Sessions.{session_of}
use Rattle.machine_parts.proofs.Keyed.{any_map}
use Rattle.machine_parts.proofs.finding.any_serves.Goals as goal

pub returns : goal.returns
returns c =
    any_from_yields_List (λ k. serves c.args.dpid (session_of k)) _ _ c.any.result c.any.ensures.ran (YieldsList-from_slice c.args.sessions.now cc) (λ x b q k. search (rules, tests))
    ∙ sym (any_map (serves c.args.dpid) session_of c.args.sessions.now)

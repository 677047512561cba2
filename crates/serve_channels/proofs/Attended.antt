-- What is done with others about packets that wait.
use Rattle.std.proofs.Common.{◌≡◌, ℕ, List, [], ◌++◌, refl, sym, ap, ◌∙◌, subst}
use Rattle.machine_desk.proofs.Crewed.{same_crew}
use Rattle.maple_io.specs.declared.act.Act.{Act}
use Rattle.machine_steps.specs.Histories.{Turn}
use Rattle.machine_steps.specs.declared.entry.Entry.{Entry}
use Rattle.machine_desk.proofs.Tended.{same_self, same_then}
use Rattle.machine_desk.proofs.Meanwhile.{none_between}
use Rattle.serve_steps.specs.Deeds.{Past, bytes_of}
use Rattle.serve_steps.specs.Laws.{entered}
use Rattle.serve_steps.proofs.Entered.{entered_ahead, AreOthers}
use Rattle.serve_channels.specs.declared.server.Server.{Server}
use Rattle.serve_channels.specs.Passing.{Tends}
use Rattle.serve_channels.specs.Servers.{IsSame, IsKnown, home}
use Rattle.serve_channels.specs.Serving.{ServingLaws}
use Rattle.serve_channels.specs.Keeping.{Are, Goes}
use Rattle.serve_channels.proofs.Alike.{IsAlike}
use Rattle.serve_channels.proofs.Entering.{begins, goes_beside, is_over_now}
use Rattle.serve_channels.proofs.Kept.{kept_but}
use Rattle.serve_channels.proofs.Others.{DidBeside, bytes_entered, meanwhile_lawful, others_alike, IsLawful, others_jobs}
use Rattle.serve_channels.proofs.Stretching.{goes_then, went_nowhere}

-- ---- in deeds

pub beside_none : (a b : Server) → b ≡ a → DidBeside a b
beside_none a b e = subst (DidBeside a) (sym e) (record { meanwhile = none_between a.desk; connections = refl; same = record { footing = refl; crew = same_crew a.crew } })

pub beside_of : (a b : Server) → Tends a b → DidBeside a b
beside_of a b t = record { meanwhile = t.meanwhile; connections = ap (λ (s : Server). s.connections.items) t.rest; same = t.same }

pub alike_beside : (c : ℕ) (ts : List Turn) (done past : Past) → AreOthers ts → IsAlike c (done ++ past) (entered ts done ++ past)
alike_beside c ts done past others = subst (IsAlike c (done ++ past)) (sym (entered_ahead ts done past)) (others_alike c ts (done ++ past) others)

pub bytes_beside : (c : ℕ) (ts : List Turn) (done past : Past) → bytes_of c (entered ts done ++ past) ≡ bytes_of c (done ++ past)
bytes_beside c ts done past = ap (bytes_of c) (entered_ahead ts done past) ∙ bytes_entered c ts (done ++ past)

-- ---- all is kept, and no entry is asked for

-- the board does nothing meanwhile
abbrev pub AsksNothing : Server → Server → Type 0
AsksNothing a b = (log : List Act) → Goes (Are []) a log b log

pub nothing_asked : (s : Server) → AsksNothing s s
nothing_asked s log g before past kept pre = went_nowhere g before (Are [] past) past log s refl kept

pub tended : ServingLaws → (a b : Server) → IsLawful a.desk → Tends a b → AsksNothing a b
tended laws a b law tends log g before past kept pre =
    let h = beside_of a b tends in
    is_over_now (Are [] past) (goes_beside laws (begins kept law) b h) refl (others_jobs laws (kept_but kept) law h kept.jobs)

-- ---- again and again

pub record TendsOn (a b : Server) : Type 0 where
  pub goes : AsksNothing a b
  pub law : IsLawful b.desk
  pub connections : b.connections ≡ a.connections
  pub same : IsSame a b

pub tends_on : (a : Server) → IsLawful a.desk → TendsOn a a
tends_on a law = record { goes = nothing_asked a; law = law; connections = refl; same = same_self home a }

pub tends_more : ServingLaws → (a b c : Server) → TendsOn a b → Tends b c → TendsOn a c
tends_more laws a b c h t = record {
  goes = λ log.
      goes_then (λ (past : Past). Unit {0}) (Are []) (Are []) (Are []) a b c log log log
      (λ past ours theirs first more x y. ap (λ (es : List Entry). es ++ theirs) x ∙ y)
      (λ n known. subst (λ (s : Server). IsKnown n s.connections.items) (sym t.rest) known) (h.goes log) (tended laws b c h.law t log);
  law = meanwhile_lawful laws h.law t.meanwhile t.same.footing;
  connections = ap (λ (s : Server). s.connections) t.rest ∙ h.connections;
  same = same_then home h.same t.same;
}

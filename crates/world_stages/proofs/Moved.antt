-- What is under way, and the numbers of it, go by a session's outbox and by its numbers alone.
use Rattle.std.proofs.Common.{◌≡◌, ◌≤◌, ◌++◌, [], sym, subst}
use Rattle.std.specs.List.{AllByRecursion}
use Rattle.machine_steps.specs.Machine.{Session}
use Rattle.world_steps.specs.Worlds.{Link}
use Rattle.world_stages.specs.Flights.{back_of, controls, signals, AreNumbered, IsClear, IsUpTo}

module _ (s t : Session) (l : Link) where
  pub clear_moved : t.outbox ≡ s.outbox → IsClear s l → IsClear t l
  clear_moved outbox h = record { line = subst (λ ms. controls (l.switch.pending ++ (l.to ++ ms)) ≡ []) (sym outbox) h.line; back = h.back }

  pub numbered_moved : t.outbox ≡ s.outbox → t.used ≡ s.used → t.taken ≡ s.taken → AreNumbered s l → AreNumbered t l
  numbered_moved outbox used taken h = record {
    taken = subst (λ n. n ≤ t.used) (sym taken) (subst (λ n. s.taken ≤ n) (sym used) h.taken);
    pending = subst (λ n. AllByRecursion (IsUpTo n) (controls l.switch.pending)) (sym taken) h.pending;
    to = subst (λ n. AllByRecursion (IsUpTo n) (controls l.to)) (sym taken) h.to;
    outbox = subst (λ n. AllByRecursion (IsUpTo n) (controls t.outbox)) (sym used) (subst (λ ms. AllByRecursion (IsUpTo s.used) (controls ms)) (sym outbox) h.outbox);
    back = subst (λ n. AllByRecursion (IsUpTo n) (signals (back_of l))) (sym taken) h.back;
  }

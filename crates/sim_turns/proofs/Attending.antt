-- What is known behind all that came from a place, and behind a delivery then.
use Rattle.std.proofs.Common.{◌≡◌, ℕ, ◌+◌, List, sym, ap, ◌∙◌, subst, inl, inr}
use Rattle.std.specs.Prelude.{Result, Ok, Err, OnOk}
use Rattle.device_port.specs.Devices.{Meaning}
use Rattle.machine_desk.specs.Desks.{DeskView}
use Rattle.machine_steps.specs.Machine.{session_at}
use Rattle.sim_channels.specs.declared.driver.Driver.{Driver}
use Rattle.sim_channels.specs.Channels.{Fits, IsKept, IsSame, WorksAlone}
use Rattle.sim_channels.specs.Hearing.{KeepsChannels}
use Rattle.sim_channels.specs.Resting.{DoesAt, RestingLaws, StandsByChannel}
use Rattle.sim_channels.specs.Waiting.{IsAtRest, IsAtRestBut, IsHeard, IsHeardThrough, IsOffered, IsQuiet, IsTaken, NoneWaits, StaysBut}
use Rattle.sim_channels.proofs.Others.{alone_back, alone_on, same_then}
use Rattle.sim_channels.proofs.Places.{by_index}

module _ (resting : RestingLaws) (here : ℕ) (old mid : Driver) (before : IsKept old) (kept : IsKept mid) (keeps : KeepsChannels here old mid)
    (same : IsSame old mid) (rest : IsAtRestBut here old) (jobs : WorksAlone old → NoneWaits mid.desk) (heard : IsHeard here mid)
    (offered : IsOffered here mid) where
  everywhere : (Holds : ℕ → Driver → Type 0) → StandsByChannel Holds → ((n : ℕ) → (n ≡ here → ⊥) → Holds n old) → Holds here mid → (n : ℕ) → Holds n mid
  everywhere Holds stands was now n =
      by_index n here (λ e. subst (λ m. Holds m mid) (sym e) now) (λ o. stands n old mid (keeps.others n o) (was n o))

  pub heard_through : IsHeardThrough mid
  heard_through = record {
    jobs = λ alone. jobs (alone_back old mid same alone);
    offered = everywhere IsOffered resting.offered (λ n o. rest.offered n) offered;
    heard = everywhere IsHeard resting.heard rest.heard heard;
  }

  -- where the desk is as it was, the machine has no message more for any device
  pub rests_still : mid.desk ≡ old.desk → IsAtRest mid
  rests_still desk =
      let sessions : (c : ℕ) → session_at c mid.desk.now ≡ session_at c old.desk.now = λ c. ap (λ (d : DeskView). session_at c d.now) desk in
      let does : DoesAt here old mid = record {
        kept = kept;
        same = same;
        others = record { sessions = λ alone c o. sessions c; channels = keeps.others };
        jobs = jobs;
        taken = λ alone. resting.taken here old mid before kept (sessions (here + 1)) ((rest.done alone).taken here);
        offered = offered;
      } in
      resting.all here mid (resting.beside here old mid before rest does) heard

  -- where all other places stay as they are, what was taken out at one is enough
  pub at_rest : StaysBut (WorksAlone old) here old mid → (new : Driver) (es : List Meaning) → IsSame mid new → Fits new es → (IsQuiet mid → IsTaken here new)
      → IsOffered here new → (IsHeard here mid → IsHeard here new) → StaysBut (IsQuiet mid) here mid new → (NoneWaits mid.desk → NoneWaits new.desk) → IsAtRest new
  at_rest stays new es also fits taken offered_now heard_now others jobs_now =
      let does : DoesAt here old new = record {
        kept = fits.kept;
        same = same_then old mid new same also;
        others = record {
          sessions = λ alone c o. others.sessions (inl (alone_on old mid same alone)) c o ∙ stays.sessions alone c o;
          channels = λ n o. others.channels n o ∙ stays.channels n o;
        };
        jobs = λ alone. jobs_now (jobs alone);
        taken = λ alone. taken (inr (jobs alone));
        offered = offered_now;
      } in
      resting.all here new (resting.beside here old new before rest does) (heard_now heard)

-- six facts of one result give another
pub on_six : {T E A B C D F G H : Type 0} (r : Result T E) → (A → B → C → D → F → G → H) → OnOk r A → OnOk r B → OnOk r C → OnOk r D → OnOk r F → OnOk r G
    → OnOk r H
on_six (Ok x) f a b c d e g = f a b c d e g
on_six (Err e) f a b c d h g = tt

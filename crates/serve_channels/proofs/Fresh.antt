-- A server that has done nothing yet, and the board's start.
use Rattle.std.proofs.Common.{◌≡◌, ◌≢◌, ℕ, List, [], ◌∷◌, ◌++◌, append-nil, append_assoc, refl, sym, ap, ◌∙◌, subst}
use Rattle.std.specs.FinSet.{contains-empty}
use Rattle.std.specs.List.{slice_get}
use Rattle.std.specs.Ordering.{nat_cmp}
use Rattle.std.specs.Prelude.{Some, is_some}
use Rattle.std.proofs.lemmas.Option.{none-some}
use Rattle.maple_io.specs.declared.act.Act.{Act}
use Rattle.maple_io.specs.declared.act.Act.TheVariants as acts
use Rattle.maple_io.specs.declared.board.Started.{Started}
use Rattle.maple_io.specs.declared.board.Started.TheVariants as started
use Rattle.maple_io.specs.Boards.{BoardFailed, BoardView, NoBoardFailed}
use Rattle.maple_io.specs.Turns.{started_acts}
use Rattle.machine_steps.specs.Machine.{State, opening, session_at}
use Rattle.machine_steps.specs.Machine.{was_opened as was_session}
use Rattle.machine_desk.proofs.Tended.{same_self}
use Rattle.serve_steps.specs.Deeds.{Past, acts_of, turns_of}
use Rattle.serve_steps.specs.Deeds.Deed.{Does}
use Rattle.serve_steps.specs.Parts.{Given}
use Rattle.serve_channels.specs.declared.connection.Connection.{Connection}
use Rattle.serve_channels.specs.declared.server.Server.{Server}
use Rattle.serve_channels.specs.Keeping.{IsKept}
use Rattle.serve_channels.specs.Starting.{FreshIsKept, IsFresh, Starts, StartsBy, started_deeds}
use Rattle.serve_channels.proofs.Acts.{act_alike}
use Rattle.serve_channels.proofs.Kept.{IsLeft, IsTold, kept_but, kept_same, kept_whole}
use Rattle.serve_channels.specs.Servers.{home}

-- ---- nothing was done

module _ (g : Given) (log : List Act) (s : Server) (h : IsFresh s) (opens : s.desk.footing.start ≡ opening g.policy g.settings) where
  none_there : (at : ℕ) (k : Connection) → slice_get s.connections.items at ≡ Some k → ⊥
  none_there at k there = none-some k (subst (λ (ks : List Connection). slice_get ks at ≡ Some k) h.alone there)

  now_is : s.desk.now ≡ opening g.policy g.settings
  now_is = sym h.opened.footing ∙ opens

  fresh_kept : IsKept g log [] log s
  fresh_kept = record {
    start = opens;
    turns = h.opened.start.none;
    acts = sym (append-nil log);
    sorted = λ i j c d up a b. absurd (none_there i a.connection a.there);
    agree = λ at k there. absurd (none_there at k there);
    forgotten = λ c unknown. record { shut = refl; closed = refl };
    unused = λ c none. (
      record {
        unaccepted = refl;
        not_over = refl;
        uncut = refl;
        untaken = refl;
        unsent = refl;
        unfailed = refl;
        unheard = refl;
        unclosed = refl;
      },
      ap (was_session c) now_is ∙ contains-empty nat_cmp c,
    );
    sessions = record {
      staged = λ at k there. absurd (none_there at k there);
      others = λ c unknown. ap (λ (m : State). is_some (session_at c m)) now_is;
    };
    crew = h.crew;
    jobs = λ alone. ap (λ (m : State). m.jobs) now_is;
  }

pub fresh_is_kept : FreshIsKept
fresh_is_kept g log s h opens = fresh_kept g log s h opens

-- ---- the board's start

module _ (g : Given) (before : List Act) (past : Past) (listen control : ℕ) (old new : List Act) (s : Server) (kept : IsKept g before past old s) where
  abbrev start : Act
  start = acts.Starts listen control

  start_left : (c : ℕ) → IsLeft past (Does start ∷ past) s s c
  start_left c = record { alike = act_alike c start past refl refl refl; bytes = λ known. refl; session = record { live = refl; opened = refl } }

  start_told : new ≡ old ++ start ∷ [] → IsTold before (Does start ∷ past) new s s
  start_told log_is = record {
    same = same_self home s;
    turns = kept.turns ∙ sym (append-nil (turns_of past));
    acts = log_is ∙ ap (λ (xs : List Act). xs ++ start ∷ []) kept.acts ∙ append_assoc before (acts_of past) (start ∷ []);
    settings = refl;
  }

  kept_started : (answer : Started) → new ≡ old ++ started_acts listen control answer → IsKept g before (started_deeds listen control answer past) new s
  kept_started started.Ready log_is = kept_whole (kept_same (kept_but kept) (start_told log_is) refl start_left) kept.jobs
  kept_started started.Failed log_is = subst (λ (log : List Act). IsKept g before past log s) (sym (log_is ∙ append-nil old)) kept

pub starts : (listen control : ℕ) (answer : Started) (s : Server) (old new : List Act) → new ≡ old ++ started_acts listen control answer
    → Starts listen control answer s old new
starts listen control answer s old new log_is g before past kept = kept_started g before past listen control old new s kept answer log_is

pub starts_by : (answer : Started) (old new : BoardView) → (answer ≡ started.Failed → BoardFailed old new) → (answer ≢ started.Failed → NoBoardFailed old new)
    → StartsBy answer old new
starts_by started.Ready old new cause spared = spared (λ e. absurd (cc))
starts_by started.Failed old new cause spared = cause refl

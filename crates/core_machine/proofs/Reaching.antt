-- Facts about how the next state is reached.
use Rattle.std.proofs.Common.{◌≡◌, ℕ, ◌+◌, List, [], ◌∷◌, ◌++◌, length, map, true, refl, ap, sym, subst, ◌∙◌, arith}
use Rattle.std.proofs.lemmas.List.{map-append}
use Rattle.std.specs.List.{AllByRecursion}
use Rattle.env_cells.specs.Environment.{Environment}
use Rattle.policy_lang.specs.declared.Policy.{Policy}
use Rattle.report_text.specs.declared.line.Line.{Line}
use Rattle.report_text.specs.declared.line.Line.TheVariants as lines
use Rattle.switch_traces.specs.Traces.{Learnings}
use Rattle.machine_parts.specs.declared.connection.Connection.{Connection}
use Rattle.machine_parts.specs.declared.parts.Parts.TheInside.{Inside}
use Rattle.machine_steps.specs.declared.reply.Reply.{Reply}
use Rattle.machine_steps.specs.declared.reply.Reply.TheVariants.{NewState}
use Rattle.machine_steps.specs.Machine.{Session, State, PolicyState, is_live, state_number, tells}
use Rattle.machine_steps.specs.Places.{CanReach, IsHeading}
use Rattle.machine_parts.specs.Seen.{IsRoomy, seen}
use Rattle.machine_steps.specs.Steps.{AimsAll, Reaches, gone, reached}
use Rattle.machine_parts.specs.Aiming.{turns, gives_up, CanReady, AreReadied}
use Rattle.machine_parts.proofs.Aiming.{all_aimed, all_back, all_due, can_aim, idle_all, none_aimed}
use Rattle.core_machine.specs.Advancing.{AreLed}

pub can_ready : (m : State) (a : Inside) → seen a ≡ m → IsRoomy a → CanReach m → CanReady a.learned.items a.sessions.items
can_ready m a is roomy can = record {
  state = m;
  learned_are = ap (λ (x : State). x.learned) (sym is);
  can = can;
  sessions = can_aim m a.sessions.items roomy.aims
      (subst (AllByRecursion (λ (s : Session). is_live s ≡ true → IsHeading m s)) (ap (λ (x : State). x.sessions) (sym is)) can.sessions);
}

-- what was made ready is turned to, or given up
pub led : (left : List Learnings) (cs ds es : List Connection) → es ≡ map turns ds → AreReadied left (length cs) cs ds → AreLed left cs es
led left cs ds es is ready =
    subst (AreLed left cs) (sym is) (record { aims = all_aimed left cs ds ready; idle = none_aimed ds; due = all_due left cs ds ready })

pub given_back : (learned left : List Learnings) (cs ds es : List Connection) → CanReady learned cs → AreReadied left (length cs) cs ds → es ≡ map gives_up ds → es ≡ cs
given_back learned left cs ds es can ready is = is ∙ all_back left (length cs) cs ds (idle_all learned cs can) ready

pub maps_more : {X Y : Type 0} (f : X → Y) (xs ys zs : List X) (p : X) (s : Y) → ys ≡ xs → zs ≡ ys ++ p ∷ [] → f p ≡ s → map f zs ≡ map f xs ++ s ∷ []
maps_more {X} {Y} f xs ys zs p s y z h =
    ap (map f) (z ∙ ap (λ (l : List X). l ++ p ∷ []) y) ∙ map-append f xs (p ∷ []) ∙ ap (λ (q : Y). map f xs ++ q ∷ []) h

pub one_longer : {X Y : Type 0} (f : X → Y) (xs : List X) (s : Y) → length (map f xs ++ s ∷ []) ≡ length xs + 1
one_longer f [] s = refl
one_longer f (x ∷ xs) s = let rest = one_longer f xs s in omega (arith, rest)

pub next_seen : (m : State) (line : Line) (ss : List Session) (earlier : List Policy) (policy : Policy) (states : List PolicyState) (scene : Environment) (learned : List Learnings) (sessions : List Session) (lines : List Line)
    → earlier ≡ m.earlier → policy ≡ m.policy → states ≡ m.states → scene ≡ m.scene → learned ≡ m.learned → sessions ≡ ss → lines ≡ m.lines ++ line ∷ []
    → record m { earlier = earlier; policy = policy; states = states; scene = scene; learned = learned; sessions = sessions; lines = lines } ≡ tells line (record m { sessions = ss })
next_seen m line ss earlier policy states scene learned sessions lines a b c d e f g =
    let goal : State = tells line (record m { sessions = ss }) in
    subst (λ (x : List Policy). record m { earlier = x; policy = policy; states = states; scene = scene; learned = learned; sessions = sessions; lines = lines } ≡ goal) (sym a)
    (subst (λ (x : Policy). record m { policy = x; states = states; scene = scene; learned = learned; sessions = sessions; lines = lines } ≡ goal) (sym b)
    (subst (λ (x : List PolicyState). record m { states = x; scene = scene; learned = learned; sessions = sessions; lines = lines } ≡ goal) (sym c)
    (subst (λ (x : Environment). record m { scene = x; learned = learned; sessions = sessions; lines = lines } ≡ goal) (sym d)
    (subst (λ (x : List Learnings). record m { learned = x; sessions = sessions; lines = lines } ≡ goal) (sym e)
    (subst (λ (x : List Session). record m { sessions = x; lines = lines } ≡ goal) (sym f)
    (subst (λ (x : List Line). record m { sessions = ss; lines = x } ≡ goal) (sym g) refl))))))

-- the next state was reached
pub reached_next : (m next : State) (ss : List Session) (n pruned : ℕ) (reply : Reply) (new : State)
    → AimsAll next.learned next.sessions ss → state_number next ≡ n → gone m next ≡ pruned → reply ≡ NewState n pruned
    → new ≡ tells (lines.State n pruned) (record next { sessions = ss })
    → (reply ≡ reached m next) × Reaches m next new
reached_next m next ss n pruned reply new aims number went told is = (
  told ∙ ap (λ (k : ℕ). NewState k pruned) (sym number) ∙ ap (λ (k : ℕ). NewState (state_number next) k) (sym went),
  record {
    sessions = ss;
    aims = aims;
    now_is = is ∙ ap (λ (k : ℕ). tells (lines.State k pruned) (record next { sessions = ss })) (sym number)
        ∙ ap (λ (k : ℕ). tells (lines.State (state_number next) k) (record next { sessions = ss })) (sym went);
  },
)

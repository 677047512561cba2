-- What stands in every longer history.
use Rattle.std.proofs.Common.{◌≡◌, ℕ, zero, suc, ◌+◌, List, [], ◌∷◌, ◌++◌, sym, ap, ◌∙◌, subst, arith, append-nil, append_assoc, Some}
use Rattle.std.specs.List.{slice_get}
use Rattle.std.specs.Option.{option_map}
use Rattle.std.proofs.lemmas.Option.{same_Some}
use Rattle.maple_base.specs.declared.decision.Settings.{Settings}
use Rattle.policy_lang.specs.declared.Policy.{Policy}
use Rattle.policy_lang.specs.PolicyTree.{policy_tree}
use Rattle.history_lock.specs.Histories.{Replays}
use Rattle.machine_steps.specs.declared.entry.Entry.{Entry}
use Rattle.machine_steps.specs.declared.entry.Entry.TheVariants as entries
use Rattle.machine_steps.specs.declared.reply.Reply.{Reply}
use Rattle.machine_steps.specs.declared.reply.Reply.TheVariants.{NoMemory, Policy as PolicyLent}
use Rattle.machine_steps.specs.Machine.{State, policy_at, policy_number}
use Rattle.machine_steps.specs.Steps.{LendsPolicy, Steps}
use Rattle.machine_steps.proofs.Later.{is_later}
use Rattle.machine_steps.proofs.Running.{policy_last}
use Rattle.machine_sharing.specs.Longer.{AllowedStays, Lends, PoliciesStay, RunsAreAdmitted, SettingsStay, ThreeStay, ToldStays}
use Rattle.machine_sharing.specs.Sharing.{Call, Turns, stale_count}

-- ---- three replies Stale

stale_append : (job : ℕ) (xs ys : List Call) → stale_count job (xs ++ ys) ≡ stale_count job xs + stale_count job ys
stale_append job [] ys = omega arith
stale_append job (x ∷ xs) ys = let rest = stale_append job xs ys in omega (arith, rest)

pub three_stay : ThreeStay
three_stay job log seen (rest, is) three = let n = stale_append job seen rest in let whole = ap (stale_count job) is in omega (arith, n, whole, three)

pub allowed_stays : AllowedStays
allowed_stays entries.ReadPolicy log seen later is = is
allowed_stays (entries.ReadCell cell) log seen later is = is
allowed_stays entries.OpenJobs log seen later is = is
allowed_stays (entries.Commit job run) log seen later is = is
allowed_stays (entries.Decide job) log seen later is = three_stay job log seen later is
allowed_stays entry log seen later is = absurd is

-- ---- policies

get_more : {X : Type 0} (xs ys : List X) (p : ℕ) (x : X) → slice_get xs p ≡ Some x → slice_get (xs ++ ys) p ≡ Some x
get_more [] ys p x e = cc
get_more (y ∷ xs) ys zero x e = e
get_more (y ∷ xs) ys (suc p) x e = get_more xs ys p x e

pub told_stays : ToldStays
told_stays number policy log seen (rest, is) t = record {
  call = t.call;
  place = t.place;
  there = ap (λ xs. slice_get xs t.place) is ∙ get_more seen rest t.place t.call t.there;
  entry = t.entry;
  lends = t.lends;
}

abbrev policies : State → List Policy
policies m = m.earlier ++ m.policy ∷ []

-- the settings, and the policies so far, stay
record Goes (old new : State) : Type 0 where
  settings : new.settings ≡ old.settings
  more : List Policy
  are : policies new ≡ policies old ++ more

goes : (old new : State) (log : List Call) → Replays Turns old log new → Goes old new
goes old new [] same = record { settings = ap (λ (m : State). m.settings) same; more = []; are = ap policies same ∙ sym (append-nil (policies old)) }
goes old new (e ∷ es) (turn, rest) =
    let first = is_later old e.reply e.behind e.entry turn.steps in
    let others = goes e.behind new es rest in
    record {
      settings = others.settings ∙ first.settings;
      more = first.more ++ others.more;
      are = others.are ∙ ap (λ ps. ps ++ others.more) first.policies_are ∙ append_assoc (policies old) first.more others.more;
    }

pub settings_stay : SettingsStay
settings_stay opening m log all = (goes opening m log all).settings

-- a policy keeps its number
stays : (old new : State) (number : ℕ) (policy : Policy) → Goes old new → policy_at old number ≡ Some policy → policy_at new number ≡ Some policy
stays old new number policy g at = ap (λ ps. slice_get ps number) g.are ∙ get_more (policies old) g.more number policy at

lent_now : (old new : State) (number : ℕ) (policy : Policy) (reply : Reply) → LendsPolicy old reply new → Lends number policy reply → policy_at new number ≡ Some policy
lent_now old new number policy (PolicyLent n lent) (is, same, stay) (k, p) =
    ap (policy_at new) (sym k ∙ is ∙ ap policy_number (sym stay)) ∙ policy_last new.earlier new.policy ∙ ap (λ x. Some x) (ap (λ (m : State). m.policy) stay ∙ sym same ∙ p)
lent_now old new number policy NoMemory e l = absurd l
lent_now old new number policy other e l = absurd e

lent_at : (old new : State) (number : ℕ) (policy : Policy) (entry : Entry) (reply : Reply) → entry ≡ entries.ReadPolicy → Steps old entry reply new → Lends number policy reply
    → policy_at new number ≡ Some policy
lent_at old new number policy entry reply is step l = lent_now old new number policy reply (let P : Entry → Type 0 = λ x. Steps old x reply new in subst P is step) l

lent_here : (old : State) (e call : Call) (number : ℕ) (policy : Policy) → e ≡ call → Turns old e.entry e.reply e.behind → call.entry ≡ entries.ReadPolicy → Lends number policy call.reply
    → policy_at e.behind number ≡ Some policy
lent_here old e call number policy is turn entry l =
    let P : Reply → Type 0 = λ r. Lends number policy r in
    lent_at old e.behind number policy e.entry e.reply (ap (λ (x : Call). x.entry) is ∙ entry) turn.steps (subst P (sym (ap (λ (x : Call). x.reply) is)) l)

none_there : (p : ℕ) (e : Call) → slice_get [] p ≡ Some e → ⊥
none_there p e at = cc

told : (opening m : State) (log : List Call) (p : ℕ) (call : Call) (number : ℕ) (policy : Policy) → Replays Turns opening log m → slice_get log p ≡ Some call → call.entry ≡ entries.ReadPolicy
    → Lends number policy call.reply → policy_at m number ≡ Some policy
told opening m [] p call number policy all at entry l = absurd (none_there p call at)
told opening m (e ∷ es) zero call number policy all at entry l =
    stays e.behind m number policy (goes e.behind m es all.1) (lent_here opening e call number policy (same_Some e call at) all.0 entry l)
told opening m (e ∷ es) (suc p) call number policy all at entry l = told e.behind m es p call number policy all.1 at entry l

pub policies_stay : PoliciesStay
policies_stay opening m log number policy all t = told opening m log t.place t.call number policy all t.there t.entry t.lends

pub runs_are_admitted : RunsAreAdmitted
runs_are_admitted opening m log seen run all later t law budget = record {
  law = law;
  budget = budget ∙ ap (λ (s : Settings). s.budget) (sym (settings_stay opening m log all));
  policy = ap (option_map policy_tree) (policies_stay opening m log run.number run.policy all (told_stays run.number run.policy log seen later t));
}

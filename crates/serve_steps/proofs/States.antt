-- The states that deeds tell are the machine's.
use Rattle.std.proofs.Common.{◌≡◌, List, [], ◌∷◌, ◌++◌, refl, sym, ◌∙◌, subst}
use Rattle.std.proofs.lemmas.List.{append-nil, append_assoc}
use Rattle.machine_steps.specs.declared.entry.Entry.TheVariants as entries
use Rattle.machine_steps.specs.Histories.{Turn, IsTurn, Leads}
use Rattle.machine_steps.specs.Machine.{State}
use Rattle.serve_steps.specs.Deeds.{acts_of, turns_of}
use Rattle.serve_steps.specs.Deeds.Deed.{Enters, Does}
use Rattle.serve_steps.specs.Laws.{AllowedAreOthers, GoesOnFrom, LogGoesOn, StatesAreTold, TurnsGoOn}

-- a history ends behind its last turn, and so does the one without it ahead of that
pub last_is : (m last : State) (ts : List Turn) (t : Turn) → Leads m (ts ++ t ∷ []) last → t.behind ≡ last
last_is m last [] t leads = sym leads.2
last_is m last (u ∷ ts) t leads = last_is u.behind last ts t leads.2

pub front_leads : (m last : State) (ts : List Turn) (t : Turn) → Leads m (ts ++ t ∷ []) last → Leads m ts t.before
front_leads m last [] t leads = leads.0
front_leads m last (u ∷ ts) t leads = (leads.0, leads.1, front_leads u.behind last ts t leads.2)

pub turn_is : (m last : State) (ts : List Turn) (t : Turn) → Leads m (ts ++ t ∷ []) last → IsTurn t
turn_is m last [] t leads = leads.1
turn_is m last (u ∷ ts) t leads = turn_is u.behind last ts t leads.2

pub states_are_told : StatesAreTold
states_are_told m last [] leads = sym leads
states_are_told m last (Enters t ∷ past) leads = last_is m last (turns_of past) t leads
states_are_told m last (Does act ∷ past) leads = states_are_told m last past (subst (λ (ts : List Turn). Leads m ts last) (append-nil (turns_of past)) leads)

leads_back : (m last : State) (ts : List Turn) (t : Turn) → Leads m ts last → t.before ≡ last → IsTurn t → Leads m (ts ++ t ∷ []) t.behind
leads_back m last [] t leads e is = (e ∙ leads, is, refl)
leads_back m last (u ∷ ts) t leads e is = (leads.0, leads.1, leads_back u.behind last ts t leads.2 e is)

pub goes_on_from : GoesOnFrom
goes_on_from m last past t leads e is = leads_back m last (turns_of past) t leads e is

pub log_goes_on : LogGoesOn
log_goes_on log past act = sym (append_assoc log (acts_of past) (act ∷ []))

pub turns_go_on : TurnsGoOn
turns_go_on [] past = sym (append-nil (turns_of past))
turns_go_on (t ∷ ts) past = turns_go_on ts (Enters t ∷ past) ∙ append_assoc (turns_of past) (t ∷ []) ts

pub allowed_are_others : AllowedAreOthers
allowed_are_others log (entries.ReadCell cell) allowed = refl
allowed_are_others log entries.ReadPolicy allowed = refl
allowed_are_others log entries.OpenJobs allowed = refl
allowed_are_others log (entries.Commit job run) allowed = refl
allowed_are_others log (entries.Decide job) allowed = refl
allowed_are_others log entry allowed = absurd allowed

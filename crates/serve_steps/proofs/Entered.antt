-- What others enter behind all that was done in a run changes nothing of what is said of it.
use Rattle.std.proofs.Common.{◌≡◌, ℕ, Bool, true, false, ◌&&◌, List, [], ◌∷◌, ◌++◌, map, Option, Some, None, append-nil, refl, sym, ap, ◌∙◌, subst, inl, inr, ⊎_elim}
use Rattle.std.specs.List.{flat_map, list_all, list_any}
use Rattle.std.proofs.lemmas.Grind.{flat_map-append}
use Rattle.maple_io.specs.Fronts.{IsFront}
use Rattle.maple_io.specs.Boards.{control_text}
use Rattle.maple_io.specs.declared.act.Act.{Act}
use Rattle.maple_io.specs.declared.board.Turn.{Turn as BoardTurn}
use Rattle.maple_io.specs.declared.board.Turn.TheVariants as turn
use Rattle.report_text.specs.Report.{spelled}
use Rattle.history_lock.specs.Histories.{AreAllowed}
use Rattle.machine_steps.specs.declared.entry.Entry.{Entry}
use Rattle.machine_steps.specs.declared.entry.Entry.TheVariants as entries
use Rattle.machine_steps.specs.declared.reply.Reply.{Reply}
use Rattle.machine_steps.specs.Histories.{Leads, Turn, report_of, said}
use Rattle.machine_steps.specs.Machine.{State, opening}
use Rattle.machine_sharing.specs.Between.{NothingChanges}
use Rattle.machine_sharing.specs.Legal.{TurnsAreCalls, call_of}
use Rattle.machine_sharing.specs.Sharing.{Allows, Call}
use Rattle.world_steps.specs.Worlds.{messages_for}
use Rattle.sim_steps.specs.Agreeing.{taken_text}
use Rattle.sim_steps.specs.Deeds.Deed.{Enters as EntersAtBench}
use Rattle.serve_steps.specs.Deeds.{Past, acts_of, calls_of, is_asked, is_of, is_open, is_others, is_over, opens_by, out_by, takes_out_by, turns_of}
use Rattle.serve_steps.specs.Deeds.Deed.{Enters}
use Rattle.serve_steps.specs.Parts.{AreFree, AreHeard, Asks, Given, IsAsked, IsDelivered, IsSent, IsWorked, Part, ahead_of, all_told, deeds_of, due, hears_open, is_last, is_quiet, is_served, is_turn, keeps_due, own_of, state_of}
use Rattle.serve_steps.specs.Runs.{IsAtRest, IsScripted, report, taken_report}
use Rattle.serve_steps.specs.Laws.{OthersGoOn, OthersStandLast, OthersStayAtRest, OthersStayInBrokenOff, OthersStayInCut, OthersStayInEnd, OthersStayInLastAsked, OthersStayInParts, OthersStayInScript, OthersTakeNothing, OthersTellNothing, deeds_entered, entered}
use Rattle.serve_steps.proofs.Fronts.{longer}
use Rattle.serve_steps.proofs.Others.{others_are_free}
use Rattle.serve_steps.proofs.Reports.{report_is_told}
use Rattle.serve_steps.proofs.States.{allowed_are_others, goes_on_from, states_are_told, turns_go_on}

-- ---- their entries

-- no entry is asked for, no session is opened or ends, nothing is heard or taken out, nor taken of the report
record Spares (e : Entry) (r : Reply) : Type 0 where
  asked : is_asked e ≡ false
  opens : (c : ℕ) → opens_by c e r ≡ false
  of : (c : ℕ) → is_of c e ≡ false
  hears : (past : Past) → hears_open e past ≡ true
  takes : (c : ℕ) → takes_out_by c e r ≡ false
  out : (c : ℕ) → out_by c e r ≡ []
  text : taken_text (EntersAtBench e r) ≡ []

spares : (e : Entry) (r : Reply) → is_others e ≡ true → Spares e r
spares (entries.ReadCell cell) r h =
    record { asked = refl; opens = λ c. refl; of = λ c. refl; hears = λ past. refl; takes = λ c. refl; out = λ c. refl; text = refl }
spares entries.ReadPolicy r h =
    record { asked = refl; opens = λ c. refl; of = λ c. refl; hears = λ past. refl; takes = λ c. refl; out = λ c. refl; text = refl }
spares entries.OpenJobs r h =
    record { asked = refl; opens = λ c. refl; of = λ c. refl; hears = λ past. refl; takes = λ c. refl; out = λ c. refl; text = refl }
spares (entries.Commit job run) r h =
    record { asked = refl; opens = λ c. refl; of = λ c. refl; hears = λ past. refl; takes = λ c. refl; out = λ c. refl; text = refl }
spares (entries.Decide job) r h =
    record { asked = refl; opens = λ c. refl; of = λ c. refl; hears = λ past. refl; takes = λ c. refl; out = λ c. refl; text = refl }
spares e r h = absurd (cc)

-- all these turns are of such entries
abbrev pub AreOthers : List Turn → Type 0
AreOthers [] = Unit {0}
AreOthers (t ∷ ts) = (is_others t.entry ≡ true) × AreOthers ts

pub are_others : (log : List Call) (ts : List Turn) → AreAllowed Allows log (map call_of ts) → AreOthers ts
are_others log [] allowed = tt
are_others log (t ∷ ts) allowed = (allowed_are_others log t.entry allowed.0, are_others (log ++ call_of t ∷ []) ts allowed.1)

-- what stays behind one stays behind all
each : (P : Past → Type 0) → ((t : Turn) (past : Past) → is_others t.entry ≡ true → P past → P (Enters t ∷ past)) → (ts : List Turn) (past : Past)
    → AreOthers ts → P past → P (entered ts past)
each P one [] past are is = is
each P one (t ∷ ts) past are is = each P one ts (Enters t ∷ past) are.1 (one t past are.0 is)

-- ---- one of their turns

module _ (t : Turn) (others : is_others t.entry ≡ true) where
  s : Spares t.entry t.reply
  s = spares t.entry t.reply others

  own_on : (done : Past) → own_of (Enters t ∷ done) ≡ own_of done
  own_on done = rw (s.asked) (append-nil (own_of done))

  over_on : (c : ℕ) (past : Past) → is_over c (Enters t ∷ past) ≡ is_over c past
  over_on c past = rw (s.of c) refl

  open_on : (c : ℕ) (past : Past) → is_open c (Enters t ∷ past) ≡ is_open c past
  open_on c past = rw (s.opens c, s.of c) refl

  taken_on : (past : Past) → taken_report (Enters t ∷ past) ≡ taken_report past
  taken_on past = rw (s.text) (append-nil (taken_report past))

  heard_on : (is_there : Bool) (c : ℕ) (before : Past) (bytes : List ℕ) (after : Past) (own : List Entry) → AreHeard is_there c before bytes after own
      → AreHeard is_there c before bytes (Enters t ∷ after) own
  heard_on true c before bytes after own is = record {
    inputs = is.inputs;
    rest = is.rest;
    entries_are = is.entries_are;
    cut = is.cut;
    up_to = ⊎_elim (λ over. inl (over_on c after ∙ over)) (λ left. inr left) is.up_to;
  }
  heard_on false c before bytes after own is = is

  asks_on : (before : Past) (given : BoardTurn) (bytes : List ℕ) (after : Past) (own : List Entry) → Asks before given bytes after own
      → Asks before given bytes (Enters t ∷ after) own
  asks_on before (turn.Bytes c n) bytes after own is = heard_on (is_open c before) c before bytes after own is
  asks_on before given bytes after own is = is

  keeps_on : (to : Option ℕ) → keeps_due to (Enters t) ≡ true
  keeps_on None = refl
  keeps_on (Some c) = rw others refl

  and_on : (a b : Bool) → a ≡ true → b ≡ true → (a && b) ≡ true
  and_on true b e f = f
  and_on false b e f = e

  scripted_on : (g : Given) (first : Past) → IsScripted g first → IsScripted g (Enters t ∷ first)
  scripted_on g first is = record { asked = rw (own_on first) is.asked; memory = rw (s.asked) is.memory }

  module _ (g : Given) (first : Past) (ahead : List Part) (p : Part) where
    abbrev before : Past
    before = deeds_of first (p ∷ ahead)

    abbrev more : Part
    more = record p { done = Enters t ∷ p.done }

    asked_on : IsAsked g first ahead p → IsAsked g first ahead more
    asked_on is = record {
      goes_on = is.goes_on;
      asked = rw (own_on p.done) (asks_on (deeds_of first ahead) p.given p.bytes before (own_of p.done) is.asked);
      memory = rw (s.asked) is.memory;
      while_open = (s.hears before, is.while_open);
      told = and_on (keeps_due (due p.done) (Enters t)) (all_told p.done) (keeps_on (due p.done)) is.told;
      none_due = rw others is.none_due;
    }

    served_on : (c : ℕ) → is_served c more.done (Enters t ∷ before) ≡ is_served c p.done before
    served_on c = rw (s.opens c, s.of c) refl

    sent_on : (c : ℕ) → IsSent c first ahead p → IsSent c first ahead more
    sent_on c is = rw (append-nil (acts_of before), s.out c, s.of c) (rw (append-nil _) is)

    delivered_on : IsDelivered first ahead p → IsDelivered first ahead more
    delivered_on is = record {
      taken = λ c served. rw (s.takes c, s.asked) (is.taken c (sym (served_on c) ∙ served));
      in_order = (tt, is.in_order);
      all_sent = λ c. sent_on c (is.all_sent c);
      closed = λ c. rw (append-nil (acts_of before), s.of c) (is.closed c);
    }

-- ---- where they stand

pub entered_ahead : (ts : List Turn) (done ahead : Past) → entered ts done ++ ahead ≡ entered ts (done ++ ahead)
entered_ahead [] done ahead = refl
entered_ahead (t ∷ ts) done ahead = entered_ahead ts (Enters t ∷ done) ahead

pub acts_entered : (ts : List Turn) (past : Past) → acts_of (entered ts past) ≡ acts_of past
acts_entered [] past = refl
acts_entered (t ∷ ts) past = acts_entered ts (Enters t ∷ past) ∙ append-nil (acts_of past)

-- behind all deeds
behind_all : (ts : List Turn) (first : Past) (parts : List Part) → deeds_entered ts first parts ≡ entered ts (deeds_of first parts)
behind_all ts first [] = refl
behind_all ts first (p ∷ ahead) = entered_ahead ts p.done (ahead_of first ahead p)

same_acts : (ts : List Turn) (first : Past) (parts : List Part) → acts_of (deeds_entered ts first parts) ≡ acts_of (deeds_of first parts)
same_acts ts first parts = ap acts_of (behind_all ts first parts) ∙ acts_entered ts (deeds_of first parts)

pub others_stand_last : OthersStandLast
others_stand_last ts first parts = record {
  turns = ap turns_of (behind_all ts first parts) ∙ turns_go_on ts (deeds_of first parts);
  acts = same_acts ts first parts;
}

leads_entered : (m now last : State) (ts : List Turn) (past : Past) → Leads m (turns_of past) now → Leads now ts last → Leads m (turns_of (entered ts past)) last
leads_entered m now last [] past legal more = subst (λ (x : State). Leads m (turns_of past) x) (sym more) legal
leads_entered m now last (t ∷ ts) past legal more =
    leads_entered m t.behind last ts (Enters t ∷ past) (goes_on_from m now past t legal more.0 more.1) more.2

report_entered : (ts : List Turn) (past : Past) → report (entered ts past) ≡ report past ++ flat_map spelled (report_of ts)
report_entered ts past =
    ap (λ (us : List Turn). flat_map spelled (report_of us)) (turns_go_on ts past)
    ∙ ap (flat_map spelled) (flat_map-append (λ (u : Turn). said u.before u.entry u.behind) (turns_of past) ts)
    ∙ flat_map-append spelled (report_of (turns_of past)) (report_of ts)

-- ---- all of them

module _ (g : Given) (past : Past) (others : List Turn) (go : OthersGoOn g past others) where
  are : AreOthers others
  are = are_others (calls_of past) others go.allowed

  same_taken : taken_report (entered others past) ≡ taken_report past
  same_taken = each (λ (now : Past). taken_report now ≡ taken_report past) (λ t now is e. taken_on t is now ∙ e) others past are refl

  same_open : (c : ℕ) → is_open c (entered others past) ≡ is_open c past
  same_open c = each (λ (now : Past). is_open c now ≡ is_open c past) (λ t now is e. open_on t is c now ∙ e) others past are refl

  was : state_of g past ≡ go.now
  was = states_are_told (opening g.policy g.settings) go.now past go.legal

  legal_now : Leads (opening g.policy g.settings) (turns_of (entered others past)) go.last
  legal_now = leads_entered (opening g.policy g.settings) go.now go.last others past go.legal go.goes_on

  front_on : (text : List ℕ) → IsFront text (report past) → IsFront text (report (entered others past))
  front_on text is = subst (λ (bs : List ℕ). IsFront text bs) (sym (report_entered others past)) (longer text (report past) (flat_map spelled (report_of others)) is)

  -- where no packet waits the machine stays
  module _ (calls : TurnsAreCalls) (nothing : NothingChanges) where
    same_last : go.now.jobs ≡ [] → go.last ≡ go.now
    same_last none =
        nothing (calls_of past) (map call_of others) go.now go.last none (calls go.now others go.last go.sound go.goes_on).replays go.allowed

    same_state : (state_of g past).jobs ≡ [] → state_of g (entered others past) ≡ state_of g past
    same_state none =
        states_are_told (opening g.policy g.settings) go.last (entered others past) legal_now
        ∙ same_last (ap (λ (m : State). m.jobs) (sym was) ∙ none)
        ∙ sym was

    worked_on : IsWorked g past → IsWorked g (entered others past)
    worked_on is alone = ap (λ (m : State). m.jobs) (same_state (is alone)) ∙ is alone

    rest_on : IsAtRest g past → IsAtRest g (entered others past)
    rest_on is = record {
      jobs = ap (λ (m : State). m.jobs) (same_state is.jobs) ∙ is.jobs;
      taken = λ c o. ap (messages_for c) (same_state is.jobs) ∙ is.taken c (sym (same_open c) ∙ o);
    }

    same_report : go.now.jobs ≡ [] → report (entered others past) ≡ report past
    same_report none =
        report_is_told (entered others past) g.policy g.settings go.last legal_now
        ∙ ap (λ (text : List ℕ). text ++ flat_map spelled go.last.lines) same_taken
        ∙ ap (λ (m : State). taken_report past ++ flat_map spelled m.lines) (same_last none)
        ∙ sym (report_is_told past g.policy g.settings go.now go.legal)

-- ---- in the first part

module _ (g : Given) (first : Past) (others : List Turn) (go : OthersGoOn g first others) where
  scripted_all : IsScripted g first → IsScripted g (entered others first)
  scripted_all is = each (IsScripted g) (λ t now o. scripted_on t o g now) others first (are g first others go) is

  free_all : AreFree first [] → AreFree (entered others first) []
  free_all is =
      others_are_free g first [] go.now go.last others
      (subst (λ (ds : Past). Leads (opening g.policy g.settings) (turns_of ds) go.now) (sym (append-nil first)) go.legal) go.goes_on
      (subst (λ (ds : Past). AreAllowed Allows (calls_of ds) (map call_of others)) (sym (append-nil first)) go.allowed) is

-- ---- in the newest part

module _ (g : Given) (first : Past) (ahead : List Part) (p : Part) (others : List Turn) (go : OthersGoOn g (deeds_of first (p ∷ ahead)) others) where
  abbrev longer_part : Part
  longer_part = record p { done = entered others p.done }

  asked_all : IsAsked g first ahead p → IsAsked g first ahead longer_part
  asked_all is =
      each (λ (done : Past). IsAsked g first ahead (record p { done = done })) (λ t done o. asked_on t o g first ahead (record p { done = done })) others p.done
      (are g (deeds_of first (p ∷ ahead)) others go) is

  delivered_all : IsDelivered first ahead p → IsDelivered first ahead longer_part
  delivered_all is =
      each (λ (done : Past). IsDelivered first ahead (record p { done = done })) (λ t done o. delivered_on t o g first ahead (record p { done = done })) others
      p.done (are g (deeds_of first (p ∷ ahead)) others go) is

  free_part : AreFree p.done (ahead_of first ahead p) → AreFree (entered others p.done) (ahead_of first ahead p)
  free_part is = others_are_free g p.done (ahead_of first ahead p) go.now go.last others go.legal go.goes_on go.allowed is

-- ---- in a run

module _ (calls : TurnsAreCalls) (nothing : NothingChanges) where
  pub others_stay_in_parts : OthersStayInParts
  others_stay_in_parts g first [] others go is = record {
    scripted = scripted_all g first others go is.scripted;
    none_refused = is.none_refused;
    free = free_all g first others go is.free;
    started = acts_entered others first ∙ is.started;
    worked = worked_on g first others go calls nothing is.worked;
  }
  others_stay_in_parts g first (p ∷ ahead) others go is = (
    record {
      asked = asked_all g first ahead p others go is.0.asked;
      free = free_part g first ahead p others go is.0.free;
      delivered = delivered_all g first ahead p others go is.0.delivered;
      worked =
          subst (IsWorked g) (sym (behind_all others first (p ∷ ahead))) (worked_on g (deeds_of first (p ∷ ahead)) others go calls nothing is.0.worked);
    },
    is.1,
  )

  pub others_stay_at_rest : OthersStayAtRest
  others_stay_at_rest g first parts others go is =
      subst (IsAtRest g) (sym (behind_all others first parts)) (rest_on g (deeds_of first parts) others go calls nothing is)

  pub others_tell_nothing : OthersTellNothing
  others_tell_nothing g first parts others go none =
      ap report (behind_all others first parts) ∙ same_report g (deeds_of first parts) others go calls nothing none

pub others_stay_in_cut : OthersStayInCut
others_stay_in_cut g first [] others go is =
    (each (λ (now : Past). list_any is_turn now ≡ false) (λ t now o e. e) others first (are g first others go) is.0, tt)
others_stay_in_cut g first (p ∷ ahead) others go is =
    ((each (λ (now : Past). list_all is_quiet now ≡ true) (λ t now o e. e) others p.done (are g (deeds_of first (p ∷ ahead)) others go) is.0.0, is.0.1), is.1)

pub others_stay_in_end : OthersStayInEnd
others_stay_in_end ended g first [] others go is = is
others_stay_in_end ended g first (p ∷ ahead) others go is =
    ap (λ (acts : List Act). is_last p.given (control_text acts)) (same_acts others first (p ∷ ahead)) ∙ is

pub others_stay_in_last_asked : OthersStayInLastAsked
others_stay_in_last_asked g first [] others go is = (
  tt,
  (
    scripted_all g first others go is.1.0,
    is.1.1,
    free_all g first others go is.1.2,
    ⊎_elim (λ e. inl (acts_entered others first ∙ e)) (λ e. inr (acts_entered others first ∙ e)) is.1.3,
  ),
)
others_stay_in_last_asked g first (p ∷ ahead) others go is =
    (is.0, (asked_all g first ahead p others go is.1.0, free_part g first ahead p others go is.1.1))

pub others_stay_in_script : OthersStayInScript
others_stay_in_script g first [] others go is =
    record { scripted = scripted_all g first others go is.scripted; free = free_all g first others go is.free; not_started = acts_entered others first ∙ is.not_started; no_turn = refl }
others_stay_in_script g first (p ∷ ahead) others go is = absurd (none_left is.no_turn)
  where
    none_left : (p ∷ ahead) ≡ [] → ⊥
    none_left e = absurd (cc)

pub others_stay_in_broken_off : OthersStayInBrokenOff
others_stay_in_broken_off text g first [] others go is = record { ahead = tt; written = tt; front = front_on g first others go text is.front }
others_stay_in_broken_off text g first (p ∷ ahead) others go is = record {
  ahead = is.ahead;
  written = is.written;
  front =
      subst (λ (past : Past). IsFront text (report past)) (sym (behind_all others first (p ∷ ahead)))
      (front_on g (deeds_of first (p ∷ ahead)) others go text is.front);
}

pub others_take_nothing : OthersTakeNothing
others_take_nothing g first parts others go = ap taken_report (behind_all others first parts) ∙ same_taken g (deeds_of first parts) others go

-- What stretches leave of connections: sessions that open and end, what is taken out, and what is sent.
use Rattle.std.proofs.Common.{◌≡◌, ℕ, ◌==◌, Bool, true, false, not, ◌&&◌, ◌||◌, if◌then◌else◌, List, [], ◌∷◌, ◌++◌, Option, Some, None, append-nil, refl, sym, ap, ◌∙◌, ⊎_elim}
use Rattle.std.specs.List.{list_any}
use Rattle.std.specs.Option.{option_or}
use Rattle.std.proofs.lemmas.Bool.{and_left, and_right, cases_Bool, or_from, or_parts, or_right}
use Rattle.std.proofs.lemmas.List.Folds.{list_any-append}
use Rattle.maple_io.specs.declared.act.Act.{Act}
use Rattle.maple_io.specs.declared.act.Act.TheVariants as acts
use Rattle.maple_io.specs.declared.board.Sent.{Sent}
use Rattle.maple_io.specs.declared.board.Sent.TheVariants as sends
use Rattle.maple_io.specs.Boards.{is_closing, sent, was_closed}
use Rattle.machine_steps.specs.declared.entry.Entry.{Entry}
use Rattle.machine_steps.specs.declared.entry.Entry.TheVariants as entries
use Rattle.machine_steps.specs.declared.reply.Reply.{Reply}
use Rattle.machine_steps.specs.declared.reply.Reply.TheVariants as replies
use Rattle.serve_steps.specs.Deeds.{Deed, Past, act_in, acts_of, answer_to, ends, ends_by_link, fails, has_failed, is_asked, is_of, is_open, is_over, last_answer, opens, opens_by, out_in, taken_of, takes_out, tells_end, tells_link_end, turns_of, was_accepted, was_cut}
use Rattle.serve_steps.specs.Deeds.Deed.{Enters, Does}
use Rattle.serve_steps.specs.Parts.{due, ends_due, entry_if, is_taken, is_taken_by, own_in, own_of}
use Rattle.serve_channels.specs.Stretches.{IsAside, Stretch}
use Rattle.serve_channels.proofs.Stretching.{aside_nothing, aside_then, due_then, gathered_then, own_alike, sent_then}

-- ---- lists

pub none_both : {X : Type 0} (xs ys : List X) → xs ++ ys ≡ [] → (xs ≡ []) × (ys ≡ [])
none_both [] ys e = (refl, e)
none_both (x ∷ xs) ys e = absurd (cc)

-- ---- sessions

-- none is opened where no entry was asked for
opens_none : (c : ℕ) (o : Option ℕ) (e : Entry) (r : Reply) → entry_if (is_asked e && not (ends_due o e)) e ≡ [] → opens_by c e r ≡ false
opens_none c None (entries.Open d) r h = absurd (cc)
opens_none c (Some n) (entries.Open d) r h = absurd (cc)
opens_none c o e r h = refl

none_opened : (c : ℕ) (done : Past) → own_of done ≡ [] → list_any (opens c) done ≡ false
none_opened c [] none = refl
none_opened c (Enters t ∷ done) none =
    let both = none_both (own_of done) (own_in (Enters t) done) none in
    or_from (opens c (Enters t)) (list_any (opens c) done) (opens_none c (due done) t.entry t.reply both.1) (none_opened c done both.0)
none_opened c (Does act ∷ done) none = none_opened c done (none_both (own_of done) [] none).0

-- one that doesn't end doesn't end by its link
links_not : (r : Reply) → tells_end r ≡ false → tells_link_end r ≡ false
links_not (replies.Ended end) e = absurd (cc)
links_not r e = refl

cuts_not : (c : ℕ) (d : Deed) → ends c d ≡ false → ends_by_link c d ≡ false
cuts_not c (Enters t) e =
    ⊎_elim (λ is. and_right (is_of c t.entry) (tells_link_end t.reply) (links_not t.reply (sym (ap (λ (b : Bool). b && tells_end t.reply) is) ∙ e)))
    (λ other. and_left (is_of c t.entry) (tells_link_end t.reply) other)
    (cases_Bool (is_of c t.entry))
cuts_not c (Does act) e = refl

pub none_cut : (c : ℕ) (done : Past) → list_any (ends c) done ≡ false → list_any (ends_by_link c) done ≡ false
none_cut c [] none = refl
none_cut c (d ∷ done) none =
    let parts = or_parts (ends c d) (list_any (ends c) done) none in
    or_from (ends_by_link c d) (list_any (ends_by_link c) done) (cuts_not c d parts.0) (none_cut c done parts.1)

-- ---- deeds behind deeds

pub any_behind : (p : Deed → Bool) (more past : Past) → list_any p more ≡ false → list_any p (more ++ past) ≡ list_any p past
any_behind p more past none = list_any-append p more past ∙ ap (λ (b : Bool). b || list_any p past) none

pub any_grows : (p : Deed → Bool) (more past : Past) → list_any p past ≡ true → list_any p (more ++ past) ≡ true
any_grows p more past is = list_any-append p more past ∙ or_right (list_any p more) (list_any p past) is

pub closed_before : (c : ℕ) (more past : Past) → was_closed c (acts_of (more ++ past)) ≡ false → was_closed c (acts_of past) ≡ false
closed_before c more past none =
    (or_parts (was_closed c (acts_of past)) (was_closed c (acts_of more))
    (sym (ap (was_closed c) (gathered_then act_in past more) ∙ list_any-append (is_closing c) (acts_of past) (acts_of more)) ∙ none)).0

-- ---- what is taken out behind the last entry that was asked for

by_taken : (b : Bool) (own : List Entry) (x y : Bool) → (x ≡ true → y ≡ true) → is_taken_by b own x ≡ true → is_taken_by b own y ≡ true
by_taken true own x y f h = refl
by_taken false [] x y f h = f h
by_taken false (e ∷ own) x y f h = absurd (cc)

by_none : (b x any : Bool) → (any ≡ true → x ≡ true) → (b || any) ≡ true → is_taken_by b [] x ≡ true
by_none true x any f h = refl
by_none false x any f h = f h

module _ (c : ℕ) where
  -- that it was stays so where more was done ahead
  pub taken_ahead : (first more : Past) → due first ≡ None → is_taken c more ≡ true → is_taken c (more ++ first) ≡ true
  taken_ahead first [] none h = absurd (cc)
  taken_ahead first (d ∷ more) none h =
      ap (λ (own : List Entry). is_taken_by (takes_out c d) own (is_taken c (more ++ first))) (own_alike d (more ++ first) more (due_then first more none))
      ∙ by_taken (takes_out c d) (own_in d more) (is_taken c more) (is_taken c (more ++ first)) (λ e. taken_ahead first more none e) h

  -- and where no entry was asked for behind it
  pub taken_behind : (done more : Past) → due done ≡ None → own_of more ≡ [] → is_taken c done ≡ true → is_taken c (more ++ done) ≡ true
  taken_behind done [] none own h = h
  taken_behind done (d ∷ more) none own h =
      let both = none_both (own_of more) (own_in d more) own in
      ap (λ (own : List Entry). is_taken_by (takes_out c d) own (is_taken c (more ++ done))) (own_alike d (more ++ done) more (due_then done more none) ∙ both.1)
      ∙ by_none (takes_out c d) (is_taken c (more ++ done)) true (λ e. taken_behind done more none both.0 h) (or_right (takes_out c d) true refl)

  pub taken_now : (done : Past) → own_of done ≡ [] → list_any (takes_out c) done ≡ true → is_taken c done ≡ true
  taken_now [] none h = absurd (cc)
  taken_now (d ∷ done) none h =
      let both = none_both (own_of done) (own_in d done) none in
      ap (λ (own : List Entry). is_taken_by (takes_out c d) own (is_taken c done)) both.1
      ∙ by_none (takes_out c d) (is_taken c done) (list_any (takes_out c) done) (λ e. taken_now done both.0 e) h

-- ---- nothing was done with a connection

module _ (c : ℕ) (more past : Past) (aside : IsAside c more) where
  pub over_stays : is_over c (more ++ past) ≡ is_over c past
  over_stays = any_behind (ends c) more past aside.unended

  pub cut_stays : was_cut c (more ++ past) ≡ was_cut c past
  cut_stays = any_behind (ends_by_link c) more past (none_cut c more aside.unended)

  pub failed_stays : has_failed c (more ++ past) ≡ has_failed c past
  failed_stays = any_behind (fails c) more past aside.unfailed

  pub sent_stays : sent c (acts_of (more ++ past)) ≡ sent c (acts_of past)
  sent_stays = sent_then c past more ∙ ap (λ (xs : List ℕ). sent c (acts_of past) ++ xs) aside.unsent ∙ append-nil (sent c (acts_of past))

  pub taken_stays : taken_of c (more ++ past) ≡ taken_of c past
  taken_stays = gathered_then (out_in c) past more ∙ ap (λ (xs : List ℕ). taken_of c past ++ xs) aside.taken ∙ append-nil (taken_of c past)

  -- nor was any entry asked for
  pub open_stays : own_of more ≡ [] → is_open c (more ++ past) ≡ is_open c past
  open_stays none =
      ap (λ (b : Bool). b && not (is_over c (more ++ past))) (any_behind (opens c) more past (none_opened c more none))
      ∙ ap (λ (b : Bool). was_accepted c past && not b) over_stays

-- with none, and no entry was asked for
pub record Passes (more ahead : Past) : Type 0 where
  pub stretch : Stretch [] more ahead
  pub aside : (c : ℕ) → IsAside c more

-- ---- where the board alone acted, and nobody was sent anything

no_answer : (answer : Sent) (b : Bool) → (if b then Some answer else None) ≡ None → b ≡ false
no_answer answer true e = absurd (cc)
no_answer answer false e = refl

act_aside : (c : ℕ) (act : Act) → answer_to c (Does act) ≡ None → IsAside c (Does act ∷ [])
act_aside c (acts.Takes d bytes answer) e =
    let other = no_answer answer (d == c) e in
    record { taken = refl; unsent = rw other refl; unanswered = rw other refl; unfailed = failed answer other; unended = refl }
  where
    failed : (answer : Sent) → (d == c) ≡ false → has_failed c (Does (acts.Takes d bytes answer) ∷ []) ≡ false
    failed sends.Failed other = rw other refl
    failed answer other = refl
act_aside c act e = record { taken = refl; unsent = refl; unanswered = refl; unfailed = refl; unended = refl }

no_one : (o p : Option Sent) → option_or o p ≡ None → (o ≡ None) × (p ≡ None)
no_one None p e = (refl, e)
no_one (Some x) p e = absurd (cc)

pub acts_aside : (c : ℕ) (done : Past) → turns_of done ≡ [] → last_answer c done ≡ None → IsAside c done
acts_aside c [] turns none = aside_nothing c
acts_aside c (Enters t ∷ done) turns none = (let f : t ∷ [] ≡ [] = (none_both (turns_of done) (t ∷ []) turns).1 in absurd (cc))
acts_aside c (Does act ∷ done) turns none =
    let both = no_one (answer_to c (Does act)) (last_answer c done) none in
    aside_then c done (Does act ∷ []) (acts_aside c done (none_both (turns_of done) [] turns).0 both.1) (act_aside c act both.0)

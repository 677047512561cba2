-- Stretches put together, and what calls did, one behind the other.
use Rattle.std.proofs.Common.{◌≡◌, ℕ, true, ◌&&◌, not, List, [], ◌∷◌, ◌++◌, Option, Some, None, append-nil, refl, sym, ap, ◌∙◌, subst}
use Rattle.std.proofs.lemmas.Bool.{and_parts, and_from, or_from}
use Rattle.std.specs.Option.{option_or}
use Rattle.std.specs.List.{list_all, list_any}
use Rattle.std.proofs.lemmas.Grind.{flat_map-append}
use Rattle.std.proofs.lemmas.List.{append_assoc}
use Rattle.std.proofs.lemmas.List.Folds.{list_all-append, list_any-append}
use Rattle.maple_io.specs.declared.act.Act.{Act}
use Rattle.maple_io.specs.Boards.{sent, sent_in}
use Rattle.machine_steps.specs.declared.entry.Entry.{Entry}
use Rattle.serve_steps.specs.Runs.{taken_in, taken_report}
use Rattle.serve_steps.specs.Deeds.{Deed, Past, acts_of, act_in, answer_to, ends, fails, gathered, has_failed, is_asked, last_answer, out_in, taken_of}
use Rattle.serve_steps.specs.Deeds.Deed.{Enters, Does}
use Rattle.serve_steps.specs.Parts.{EachBehind, Given, HearsOpen, IsFree, SendsNext, all_told, due, due_by, ends_due, entry_if, had_memory, is_quiet, keeps_due, own_in, own_of}
use Rattle.serve_channels.specs.declared.server.Server.{Server}
use Rattle.serve_channels.specs.Keeping.{Goes, GoesFrom, IsKept, Went}
use Rattle.serve_channels.specs.Servers.{IsKnown}
use Rattle.serve_channels.specs.Stretches.{IsAside, Stretch}

-- ---- the empty stretch

pub nothing_done : (ahead : Past) → Stretch [] [] ahead
nothing_done ahead = record { quiet = refl; own_is = refl; memory = refl; while_open = tt; told = refl; due_is = refl; free = tt; in_order = tt }

pub aside_nothing : (c : ℕ) → IsAside c []
aside_nothing c = record { taken = refl; unsent = refl; unanswered = refl; unfailed = refl; unended = refl }

-- ---- two stretches

each_then : (P : Deed → Past → Type 0) (first more ahead : Past) → EachBehind P first ahead → EachBehind P more (first ++ ahead) → EachBehind P (more ++ first) ahead
each_then P first [] ahead h k = h
each_then P first (d ∷ more) ahead h k = (subst (P d) (sym (append_assoc more first ahead)) k.0, each_then P first more ahead h k.1)

pub due_then : (first more : Past) → due first ≡ None → due (more ++ first) ≡ due more
due_then first [] none = none
due_then first (d ∷ more) none = ap (due_by d) (due_then first more none)

pub own_alike : (d : Deed) (a b : Past) → due a ≡ due b → own_in d a ≡ own_in d b
own_alike (Enters t) a b e = ap (λ (o : Option ℕ). entry_if (is_asked t.entry && not (ends_due o t.entry)) t.entry) e
own_alike (Does act) a b e = refl

own_then : (first more : Past) → due first ≡ None → own_of (more ++ first) ≡ own_of first ++ own_of more
own_then first [] none = sym (append-nil (own_of first))
own_then first (d ∷ more) none =
    ap (λ (es : List Entry). es ++ own_in d (more ++ first)) (own_then first more none)
    ∙ ap (λ (es : List Entry). (own_of first ++ own_of more) ++ es) (own_alike d (more ++ first) more (due_then first more none))
    ∙ append_assoc (own_of first) (own_of more) (own_in d more)

told_then : (first more : Past) → due first ≡ None → all_told first ≡ true → all_told more ≡ true → all_told (more ++ first) ≡ true
told_then first [] none h k = h
told_then first (d ∷ more) none h k =
    and_from (keeps_due (due (more ++ first)) d) (all_told (more ++ first))
    (ap (λ (o : Option ℕ). keeps_due o d) (due_then first more none) ∙ (and_parts (keeps_due (due more) d) (all_told more) k).0)
    (told_then first more none h (and_parts (keeps_due (due more) d) (all_told more) k).1)

pub stretch_then : (ours theirs : List Entry) (first more ahead : Past) → Stretch ours first ahead → Stretch theirs more (first ++ ahead)
    → Stretch (ours ++ theirs) (more ++ first) ahead
stretch_then ours theirs first more ahead h k = record {
  quiet = list_all-append is_quiet more first ∙ and_from (list_all is_quiet more) (list_all is_quiet first) k.quiet h.quiet;
  own_is = own_then first more h.due_is ∙ ap (λ (es : List Entry). es ++ own_of more) h.own_is ∙ ap (λ (es : List Entry). ours ++ es) k.own_is;
  memory = list_all-append had_memory more first ∙ and_from (list_all had_memory more) (list_all had_memory first) k.memory h.memory;
  while_open = each_then HearsOpen first more ahead h.while_open k.while_open;
  told = told_then first more h.due_is h.told k.told;
  due_is = due_then first more h.due_is ∙ k.due_is;
  free = each_then IsFree first more ahead h.free k.free;
  in_order = each_then SendsNext first more ahead h.in_order k.in_order;
}

-- ---- nothing done with a connection

pub gathered_then : {A : Type 0} (f : Deed → List A) (first more : Past) → gathered f (more ++ first) ≡ gathered f first ++ gathered f more
gathered_then f first [] = sym (append-nil (gathered f first))
gathered_then f first (d ∷ more) = ap (λ xs. xs ++ f d) (gathered_then f first more) ∙ append_assoc (gathered f first) (gathered f more) (f d)

pub sent_then : (c : ℕ) (first more : Past) → sent c (acts_of (more ++ first)) ≡ sent c (acts_of first) ++ sent c (acts_of more)
sent_then c first more = ap (sent c) (gathered_then act_in first more) ∙ flat_map-append (sent_in c) (acts_of first) (acts_of more)

or_assoc : {A : Type 0} (a b c : Option A) → option_or a (option_or b c) ≡ option_or (option_or a b) c
or_assoc None b c = refl
or_assoc (Some x) b c = refl

pub answer_then : (c : ℕ) (first more : Past) → last_answer c (more ++ first) ≡ option_or (last_answer c more) (last_answer c first)
answer_then c first [] = refl
answer_then c first (d ∷ more) = ap (option_or (answer_to c d)) (answer_then c first more) ∙ or_assoc (answer_to c d) (last_answer c more) (last_answer c first)

pub aside_then : (c : ℕ) (first more : Past) → IsAside c first → IsAside c more → IsAside c (more ++ first)
aside_then c first more h k = record {
  taken = gathered_then (out_in c) first more ∙ ap (λ xs. xs ++ taken_of c more) h.taken ∙ k.taken;
  unsent = sent_then c first more ∙ ap (λ xs. xs ++ sent c (acts_of more)) h.unsent ∙ k.unsent;
  unanswered = answer_then c first more ∙ ap (λ o. option_or o (last_answer c first)) k.unanswered ∙ h.unanswered;
  unfailed = list_any-append (fails c) more first ∙ or_from (has_failed c more) (has_failed c first) k.unfailed h.unfailed;
  unended = list_any-append (ends c) more first ∙ or_from (list_any (ends c) more) (list_any (ends c) first) k.unended h.unended;
}

-- ---- what calls did

-- all that are there are there behind it
abbrev pub StayKnown : Server → Server → Type 0
StayKnown old new = (c : ℕ) → IsKnown c old.connections.items → IsKnown c new.connections.items

-- what one did and the other, of which each of these holds, is of this
abbrev pub Joins : (Past → List Entry → Past → Type 0) → (Past → List Entry → Past → Type 0) → (Past → List Entry → Past → Type 0) → Type 0
Joins So1 So2 So =
    (past : Past) (ours theirs : List Entry) (first more : Past) → So1 past ours first → So2 (first ++ past) theirs more
    → So past (ours ++ theirs) (more ++ first)

pub went_then : (g : Given) (before : List Act) (So1 So2 So : Past → List Entry → Past → Type 0) (past : Past) (log1 log2 : List Act) (a b : Server)
    → Joins So1 So2 So → StayKnown a b → (h : Went g before (So1 past) past log1 a) → Went g before (So2 (h.done ++ past)) (h.done ++ past) log2 b
    → Went g before (So past) past log2 b
went_then g before So1 So2 So past log1 log2 a b joins stay h k = record {
  done = k.done ++ h.done;
  own = h.own ++ k.own;
  stretch = stretch_then h.own k.own h.done k.done past h.stretch k.stretch;
  so = joins past h.own k.own h.done k.done h.so k.so;
  kept = subst (λ (p : Past). IsKept g before p log2 b) (sym (append_assoc k.done h.done past)) k.kept;
  aside = λ c unknown. aside_then c h.done k.done (h.aside c (λ known. unknown (stay c known))) (k.aside c unknown);
  unread = gathered_then taken_in h.done k.done ∙ ap (λ (text : List ℕ). text ++ taken_report k.done) h.unread ∙ k.unread;
}

-- one call, and then another
pub goes_then : (Pre : Past → Type 0) (So1 So2 So : Past → List Entry → Past → Type 0) (a b c : Server) (log1 log2 log3 : List Act) → Joins So1 So2 So → StayKnown b c
    → GoesFrom Pre So1 a log1 b log2 → Goes So2 b log2 c log3 → GoesFrom Pre So a log1 c log3
goes_then Pre So1 So2 So a b c log1 log2 log3 joins stay h k g before past kept pre =
    went_then g before So1 So2 So past log2 log3 b c joins stay (h g before past kept pre)
    (k g before ((h g before past kept pre).done ++ past) (h g before past kept pre).kept tt)

-- a weaker statement of it
pub goes_so : (Pre : Past → Type 0) (So So' : Past → List Entry → Past → Type 0) (a b : Server) (log1 log2 : List Act)
    → ((past : Past) (own : List Entry) (done : Past) → So past own done → So' past own done) → GoesFrom Pre So a log1 b log2 → GoesFrom Pre So' a log1 b log2
goes_so Pre So So' a b log1 log2 weaker h g before past kept pre =
    (let w = h g before past kept pre in
    record { done = w.done; own = w.own; stretch = w.stretch; so = weaker past w.own w.done w.so; kept = w.kept; aside = w.aside; unread = w.unread })

-- nothing was done
pub went_nowhere : (g : Given) (before : List Act) (So : List Entry → Past → Type 0) (past : Past) (log : List Act) (s : Server) → So [] [] → IsKept g before past log s
    → Went g before So past log s
went_nowhere g before So past log s so kept =
    record { done = []; own = []; stretch = nothing_done past; so = so; kept = kept; aside = λ c unknown. aside_nothing c; unread = refl }

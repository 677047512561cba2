-- There was room for each packet, and memory for each turn, by a test.
use Rattle.std.proofs.Common.{◌≡◌, ◌≢◌, Bool, true, false, ◌&&◌, List, [], ◌∷◌, refl, sym, ap, ◌∙◌}
use Rattle.std.specs.List.{AllByRecursion, list_all}
use Rattle.machine_steps.specs.declared.reply.Reply.{Reply}
use Rattle.machine_steps.specs.declared.reply.Reply.TheVariants as replies
use Rattle.machine_steps.specs.Histories.{Turn}
use Rattle.serve_steps.specs.Runs.{IsSmooth}

abbrev pub fits : Reply → Bool
fits replies.NoMemory = false
fits replies.Overload = false
fits reply = true

pub it_fits : (r : Reply) → r ≢ replies.Overload → r ≢ replies.NoMemory → fits r ≡ true
it_fits replies.Overload room had = absurd (room refl)
it_fits replies.NoMemory room had = absurd (had refl)
it_fits r room had = refl

never : false ≡ true → ⊥
never e = absurd (cc)

other : (r s : Reply) → fits s ≡ false → fits r ≡ true → r ≢ s
other r s out h e = never (sym out ∙ sym (ap fits e) ∙ h)

and_left : (a b : Bool) → (a && b) ≡ true → a ≡ true
and_left true b h = refl
and_left false b h = h

and_right : (a b : Bool) → (a && b) ≡ true → b ≡ true
and_right true b h = h
and_right false b h = absurd (cc)

abbrev pub all_fit : List Turn → Bool
all_fit ts = list_all (λ (t : Turn). fits t.reply) ts

others : (s : Reply) → fits s ≡ false → (ts : List Turn) → all_fit ts ≡ true → AllByRecursion (λ (t : Turn). t.reply ≢ s) ts
others s out [] h = tt
others s out (t ∷ ts) h = (other t.reply s out (and_left (fits t.reply) (all_fit ts) h), others s out ts (and_right (fits t.reply) (all_fit ts) h))

pub smooth : (whole : Bool) (ts : List Turn) → all_fit ts ≡ true → IsSmooth whole ts
smooth whole ts all = record { room = others replies.Overload refl ts all; memory = λ is. others replies.NoMemory refl ts all }

-- The words that commands begin with.
use Rattle.std.specs.Prelude.{ℕ, if◌then◌else◌, List, [], ◌∷◌, Option, Some, None, codes}
use Rattle.std.specs.Str.{bytes_eq}
use Rattle.script_text.specs.declared.verb.Verb.{Verb}
use Rattle.script_text.specs.declared.verb.Verb.TheVariants.{Plug, Unplug, Packet, Frame, Turn, Settle, Host, NoHost, Link, NoLink, Set, Unset, NewPolicy, Rules, Quit}

abbrev pub word_of : Verb → List ℕ
word_of Plug = codes "plug"
word_of Unplug = codes "unplug"
word_of Packet = codes "packet"
word_of Frame = codes "frame"
word_of Turn = codes "turn"
word_of Settle = codes "settle"
word_of Host = codes "host"
word_of NoHost = codes "nohost"
word_of Link = codes "link"
word_of NoLink = codes "nolink"
word_of Set = codes "set"
word_of Unset = codes "unset"
word_of NewPolicy = codes "newpolicy"
word_of Rules = codes "rules"
word_of Quit = codes "quit"

abbrev pub all_verbs : List Verb
all_verbs = Plug ∷ Unplug ∷ Packet ∷ Frame ∷ Turn ∷ Settle ∷ Host ∷ NoHost ∷ Link ∷ NoLink ∷ Set ∷ Unset ∷ NewPolicy ∷ Rules ∷ Quit ∷ []

-- the first of some verbs that has this word
abbrev pub verb_among : List Verb → List ℕ → Option Verb
verb_among [] word = None
verb_among (v ∷ vs) word = if bytes_eq (word_of v) word then Some v else verb_among vs word

-- the verb of a word
abbrev pub verb_of : List ℕ → Option Verb
verb_of = verb_among all_verbs

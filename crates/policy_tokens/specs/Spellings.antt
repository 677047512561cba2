-- How keywords and signs are written.
use Rattle.std.specs.Prelude.{ℕ, List, [], ◌∷◌, codes}
use Rattle.policy_tokens.specs.declared.token.Keyword.{Keyword}
use Rattle.policy_tokens.specs.declared.token.Keyword.TheVariants.{Table, Policy, Learning, Drop, Flood, Out, Route, Let, If, Else, While, Host, Hop, Up, At, As, Is, And, Or, Not, In, Packet}
use Rattle.policy_tokens.specs.declared.token.Sign.{Sign}
use Rattle.policy_tokens.specs.declared.token.Sign.TheVariants.{OpenBrace, CloseBrace, OpenParenthesis, CloseParenthesis, OpenBracket, CloseBracket, Semicolon, Comma, Assign, Equal, NotEqual, Less, LessEqual, Plus, Minus}

abbrev pub keyword_text : Keyword → List ℕ
keyword_text Table = codes "table"
keyword_text Policy = codes "policy"
keyword_text Learning = codes "learning"
keyword_text Drop = codes "drop"
keyword_text Flood = codes "flood"
keyword_text Out = codes "out"
keyword_text Route = codes "route"
keyword_text Let = codes "let"
keyword_text If = codes "if"
keyword_text Else = codes "else"
keyword_text While = codes "while"
keyword_text Host = codes "host"
keyword_text Hop = codes "hop"
keyword_text Up = codes "up"
keyword_text At = codes "at"
keyword_text As = codes "as"
keyword_text Is = codes "is"
keyword_text And = codes "and"
keyword_text Or = codes "or"
keyword_text Not = codes "not"
keyword_text In = codes "in"
keyword_text Packet = codes "pkt"

abbrev pub keywords : List Keyword
keywords =
    Table ∷ Policy ∷ Learning ∷ Drop ∷ Flood ∷ Out ∷ Route ∷ Let ∷ If ∷ Else ∷ While ∷ Host ∷ Hop ∷ Up ∷ At ∷ As ∷ Is ∷ And ∷ Or ∷ Not ∷ In ∷ Packet ∷ []

abbrev pub sign_text : Sign → List ℕ
sign_text OpenBrace = codes "{"
sign_text CloseBrace = codes "}"
sign_text OpenParenthesis = codes "("
sign_text CloseParenthesis = codes ")"
sign_text OpenBracket = codes "["
sign_text CloseBracket = codes "]"
sign_text Semicolon = codes ";"
sign_text Comma = codes ","
sign_text Assign = codes "="
sign_text Equal = codes "=="
sign_text NotEqual = codes "!="
sign_text Less = codes "<"
sign_text LessEqual = codes "<="
sign_text Plus = codes "+"
sign_text Minus = codes "-"

abbrev pub signs : List Sign
signs =
    OpenBrace ∷ CloseBrace ∷ OpenParenthesis ∷ CloseParenthesis ∷ OpenBracket ∷ CloseBracket ∷ Semicolon ∷ Comma ∷ Assign ∷ Equal ∷ NotEqual ∷ Less
    ∷ LessEqual ∷ Plus ∷ Minus ∷ []

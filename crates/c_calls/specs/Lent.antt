-- What a call is lent for its result.
use Rattle.base.specs.Reply.{Reply, accepted, refused}

-- what it is afterwards: the result, or as found where the call is refused
abbrev pub lent_after : {A : Type 0} → Reply A → A → A
lent_after (accepted a) found = a
lent_after (refused number) found = found

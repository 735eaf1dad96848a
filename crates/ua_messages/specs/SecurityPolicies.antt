-- Security policies, by their URIs (IEC 62541-7).
use Rattle.std.specs.Prelude.{ℕ, List, codes}

-- messages are neither signed nor encrypted
abbrev pub security_policy_none : List ℕ
security_policy_none = codes "http://opcfoundation.org/UA/SecurityPolicy#None"

-- The replies to the statements of a script on a table alone, each on the table as the one before it left it: there is no tree in
-- this, and no page.
use Rattle.std.specs.Prelude.{◌≡◌, ℕ, true, List, [], ◌∷◌, Ok, Err, Some, length, slice_get, slice_range, take}
use Rattle.ub_exec.specs.Stand.{Stand, IsStand}
use Rattle.ub_lexer.specs.Statements.{AreStatements}
use Rattle.ub_lexer.specs.Tokens.{AreTokens}
use Rattle.ub_lexer.specs.declared.token.Token.{Token}
use Rattle.ub_parser.specs.Outcome.{Command, asks, puts, takes}
use Rattle.ub_script.specs.Changes.{IsTableDelete, IsTableInsert}
use Rattle.ub_script.specs.Script.{Outcome, IsTheOutcome}
use Rattle.ub_script.specs.Text.{Reply, reply, refused_text, IsTableReply}

-- the reply to a statement with this outcome on a table that stands so, and where the table stands then: a query and a refused
-- statement leave it as it is
abbrev pub IsReplyOn : Stand → Outcome → Reply → Stand → Type 0
IsReplyOn s (Ok (asks t)) r now = IsTableReply t.is_explained s.table s.regions t.asked r × (r.changed ≡ 0) × (now ≡ s)
IsReplyOn s (Ok (puts values)) r now = IsTableInsert s values r now
IsReplyOn s (Ok (takes q)) r now = IsTableDelete s q r now
IsReplyOn s (Err fault) r now = (r ≡ reply (refused_text fault) 0 true 0) × (now ≡ s)

-- the reply to the statement of these tokens
pub record IsReplyTo (s : Stand) (source : List ℕ) (tokens : List Token) (r : Reply) (now : Stand) : Type 0 where
  pub outcome : Outcome
  pub heard : IsTheOutcome s.table.schema source tokens outcome
  pub stands : IsStand s
  pub reply_is : IsReplyOn s outcome r now

-- the replies to the statements at these ranges of the tokens, in order
abbrev pub AreRepliesAt : Stand → List ℕ → List Token → List (ℕ × ℕ) → List Reply → Stand → Type 0
AreRepliesAt s source tokens [] [] now = now ≡ s
AreRepliesAt s source tokens [] (r ∷ replies) now = ⊥
AreRepliesAt s source tokens (range ∷ ranges) [] now = ⊥
AreRepliesAt s source tokens (range ∷ ranges) (r ∷ replies) now =
    (mid : Stand) × IsReplyTo s source (slice_range tokens range.0 range.1) r mid × AreRepliesAt mid source tokens ranges replies now

-- the replies to the first statements of a script, as many as there are replies
pub record AreFirstReplies (s : Stand) (script : List ℕ) (replies : List Reply) (now : Stand) : Type 0 where
  pub tokens : List Token
  pub ranges : List (ℕ × ℕ)
  pub tokens_are : AreTokens script tokens
  pub ranges_are : AreStatements tokens ranges
  pub first : AreRepliesAt s script tokens (take (length replies) ranges) replies now

-- they are the replies to all of its statements
pub record AreReplies (s : Stand) (script : List ℕ) (replies : List Reply) (now : Stand) : Type 0 where
  pub first : AreFirstReplies s script replies now
  pub all : length replies ≡ length first.ranges

-- they are the replies to those before one that is accepted, and says this
pub record AreRepliesBefore (s : Stand) (script : List ℕ) (says : Command) (replies : List Reply) (now : Stand) : Type 0 where
  pub first : AreFirstReplies s script replies now
  pub range : ℕ × ℕ
  pub there : slice_get first.ranges (length replies) ≡ Some range
  pub next : IsTheOutcome now.table.schema script (slice_range first.tokens range.0 range.1) (Ok says)

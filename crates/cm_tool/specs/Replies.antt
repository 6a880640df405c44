-- Replies as they are written.
use Rattle.std.specs.Prelude.{◌≡◌, ℕ, ◌++◌, Bool, true, false, List, [], ◌∷◌}
use Rattle.std.specs.List.{flat_map}
use Rattle.cm_tool.specs.declared.reply.ReplyKind.{ReplyKind}
use Rattle.cm_tool.specs.declared.reply.ReplyKind.TheVariants as kind
use Rattle.cm_tool.specs.declared.reply.Reply.{Reply}
use Rattle.cm_tool.specs.Texts.{ReplyText}

-- the bytes written for a reply, and for replies
abbrev pub reply_line : ReplyText → List ℕ
reply_line given = given.text ++ 10 ∷ []

abbrev pub reply_lines : List ReplyText → List ℕ
reply_lines replies = flat_map reply_line replies

-- the reply has this kind, and its line is this text with the newline
pub record IsReply (given : ReplyText) (reply : Reply) : Type 0 where
  pub kind : reply.kind ≡ given.kind
  pub line : reply.line.items ≡ reply_line given

abbrev pub is_refused : ReplyKind → Bool
is_refused kind.Done = false
is_refused kind.Refused = true
is_refused kind.Unsure = false

abbrev pub is_unsure : ReplyKind → Bool
is_unsure kind.Done = false
is_unsure kind.Refused = false
is_unsure kind.Unsure = true

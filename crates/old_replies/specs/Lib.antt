pub mod OldReplies

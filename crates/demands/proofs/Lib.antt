pub mod WholeLaws
pub mod HeadersLaws
pub mod ReceivedLaws
pub mod NamesTheDamageLaws
pub mod ReadsBackLaws
pub mod WritesAgainLaws

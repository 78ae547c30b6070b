pub mod Rising
pub mod WalkLemmas
pub mod PutLemmas
pub mod LeftLemmas
mod FollowLemmas
pub mod GraphPlaces
mod UnderWay
mod TurnLemmas
mod RootLemmas
mod StandingLemmas
mod KeptLemmas
mod KeepLemmas
mod ChosenLemmas
mod CountLemmas
pub mod SelectedLemmas
mod ReadLemmas
mod ExcludeLemmas
mod Examples

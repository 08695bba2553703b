-- By cases; searches, sums, divisors and quotients; lists, texts laid over a buffer, sorted lists in one array; bytes and fields; tests
-- that decide a condition.
pub mod Cases
pub mod Search
pub mod Sum
pub mod Divisor
pub mod Multiple
pub mod Quotients
pub mod Lists
pub mod Writing
pub mod TwoPlaces
pub mod Listing
pub mod SortedLists
pub mod Turned
pub mod Fields
pub mod Each
pub mod Digits
pub mod Parts
pub mod Decides
